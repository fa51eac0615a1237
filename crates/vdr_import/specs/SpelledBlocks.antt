-- Files of pcapng as they are written, block by block ("PCAP Next Generation Capture File Format", draft-ietf-opsawg-pcapng): section headers,
-- interfaces, enhanced packets, and blocks of other types.
use Rattle.std.specs.Prelude.{◌≡◌, ◌≢◌, ◌≤◌, ◌<◌, ℕ, ◌+◌, ◌*◌, ◌^◌, ◌%◌, ◌==◌, ◌||◌, Bool, List, [], ◌∷◌, ◌++◌, length, take, slice_index_or, Option, None, Some, ⊤, if◌then◌else◌}
use Rattle.std.specs.Int.{w64, to_le_bytes, to_be_bytes}
use Rattle.std.specs.List.{flat_map}
use Rattle.vdr_pcap.specs.Blocks.{no_interface, noted_or, section_type}
use Rattle.vdr_pcap.specs.Capture.{IsCapture, Part, pieces_of}
use Rattle.vdr_pcap.specs.Options.{padded}
use Rattle.vdr_pcap.specs.Packets.{Captured, Nothing, Packet, Piece, Unread, longest_front}
use Rattle.vdr_pcap.specs.Stamps.{stamp_of_units}
use Rattle.vdr_pcap.specs.declared.form.Interface.{Interface}
use Rattle.vdr_import.specs.SpelledFiles.{u16_bytes, u32_bytes}

abbrev pub u64_bytes : (big : Bool) → ℕ → List ℕ
u64_bytes big n = if big then to_be_bytes w64 n else to_le_bytes w64 n

-- ---- options of an interface

-- The resolution of its stamps (code 9); seconds to be added to them, in two's complement (code 14); or any other. Each has what pads it.
pub data InterfaceOption : Type 0 where
  Resolution : (resolution : ℕ) (padding : List ℕ) → InterfaceOption
  Added : (seconds : ℕ) → InterfaceOption
  Other : (code : ℕ) (value padding : List ℕ) → InterfaceOption

abbrev pub option_text : (big : Bool) → InterfaceOption → List ℕ
option_text big (Resolution resolution padding) = (u16_bytes big 9 ++ u16_bytes big 1) ++ (resolution ∷ padding)
option_text big (Added seconds) = (u16_bytes big 14 ++ u16_bytes big 8) ++ u64_bytes big seconds
option_text big (Other code value padding) = (u16_bytes big code ++ u16_bytes big (length value)) ++ (value ++ padding)

abbrev pub IsOption : InterfaceOption → Type 0
IsOption (Resolution resolution padding) = length padding ≡ 3
IsOption (Added seconds) = seconds < 2 ^ 64
IsOption (Other code value padding) = (code ≢ 0) × (code ≢ 9) × (code ≢ 14) × (code < 2 ^ 16) × (length value < 2 ^ 16) × (length value + length padding ≡ padded (length value))

abbrev pub AreOptions : List InterfaceOption → Type 0
AreOptions [] = ⊤
AreOptions (o ∷ options) = IsOption o × AreOptions options

-- What ends the options: the end of their block, or the code 0, with whatever stands behind it.
abbrev pub end_text : (big : Bool) → Option (List ℕ) → List ℕ
end_text big None = []
end_text big (Some rest) = u16_bytes big 0 ++ (u16_bytes big 0 ++ rest)

-- Where an option stands twice the first counts.
abbrev pub resolution_in : List InterfaceOption → Option ℕ
resolution_in [] = None
resolution_in (Resolution resolution padding ∷ options) = Some resolution
resolution_in (Added seconds ∷ options) = resolution_in options
resolution_in (Other code value padding ∷ options) = resolution_in options

abbrev pub added_in : List InterfaceOption → Option ℕ
added_in [] = None
added_in (Resolution resolution padding ∷ options) = added_in options
added_in (Added seconds ∷ options) = Some seconds
added_in (Other code value padding ∷ options) = added_in options

-- ---- blocks

-- A section header has the order of numbers from there on, and behind its version the section's length and options, which nobody looks at. Of
-- an interface 6 bytes are not looked at, and of an enhanced packet its original length and its options.
pub data Block : Type 0 where
  Section : (big : Bool) (minor : ℕ) (unread : List ℕ) → Block
  Describes : (link : ℕ) (unread : List ℕ) (options : List InterfaceOption) (ended : Option (List ℕ)) → Block
  Enhanced : (interface high low original : ℕ) (captured padding options : List ℕ) → Block
  Unknown : (kind : ℕ) (body : List ℕ) → Block

abbrev pub kind_of : Block → ℕ
kind_of (Section big minor unread) = section_type
kind_of (Describes link unread options ended) = 1
kind_of (Enhanced interface high low original captured padding options) = 6
kind_of (Unknown kind body) = kind

-- the order of numbers in a block and behind it
abbrev pub order_in : (big : Bool) → Block → Bool
order_in big (Section b minor unread) = b
order_in big (Describes link unread options ended) = big
order_in big (Enhanced interface high low original captured padding options) = big
order_in big (Unknown kind body) = big

abbrev pub body_text : (big : Bool) → Block → List ℕ
body_text big (Section b minor unread) = u32_bytes big 0x1A2B3C4D ++ (u16_bytes big 1 ++ (u16_bytes big minor ++ unread))
body_text big (Describes link unread options ended) = (u16_bytes big link ++ unread) ++ (flat_map (option_text big) options ++ end_text big ended)
body_text big (Enhanced interface high low original captured padding options) =
    (u32_bytes big interface ++ (u32_bytes big high ++ (u32_bytes big low ++ (u32_bytes big (length captured) ++ u32_bytes big original)))) ++ (captured ++ (padding ++ options))
body_text big (Unknown kind body) = body

-- Its type, its length, its body, and its length again.
abbrev pub sized_text : (big : Bool) → (kind : ℕ) → (body : List ℕ) → List ℕ
sized_text big kind body = u32_bytes big kind ++ (u32_bytes big (12 + length body) ++ (body ++ u32_bytes big (12 + length body)))

abbrev pub block_text : (big : Bool) → Block → List ℕ
block_text big b = sized_text (order_in big b) (kind_of b) (body_text (order_in big b) b)

abbrev pub blocks_text : (big : Bool) → List Block → List ℕ
blocks_text big [] = []
blocks_text big (b ∷ blocks) = block_text big b ++ blocks_text (order_in big b) blocks

-- ---- what the blocks of a file tell

abbrev pub interface_in : (link : ℕ) → List InterfaceOption → Interface
interface_in link options = record { link = link; resolution = noted_or (resolution_in options) 6; added = noted_or (added_in options) 0; lost = 0 }

-- the section's interfaces behind a block
abbrev pub interfaces_with : List Interface → Block → List Interface
interfaces_with interfaces (Section big minor unread) = []
interfaces_with interfaces (Describes link unread options ended) = interfaces ++ interface_in link options ∷ []
interfaces_with interfaces (Enhanced interface high low original captured padding options) = interfaces
interfaces_with interfaces (Unknown kind body) = interfaces

abbrev pub packet_by : Interface → (high low : ℕ) → (captured : List ℕ) → Captured
packet_by i high low captured = record { link = i.link; stamp = stamp_of_units i.resolution i.added (2 ^ 32 * high + low); front = take longest_front captured }

abbrev pub told_by : List Interface → Block → Piece
told_by interfaces (Section big minor unread) = Nothing
told_by interfaces (Describes link unread options ended) = Nothing
told_by interfaces (Enhanced interface high low original captured padding options) = Packet (packet_by (slice_index_or interfaces interface no_interface) high low captured)
told_by interfaces (Unknown kind body) = if kind == 2 || kind == 3 then Unread else Nothing

abbrev pub told_by_all : List Interface → List Block → List Piece
told_by_all interfaces [] = []
told_by_all interfaces (b ∷ blocks) = told_by interfaces b ∷ told_by_all (interfaces_with interfaces b) blocks

-- ---- legal blocks

-- A body has whole words, and its block's length is one.
pub record HasBody (big : Bool) (b : Block) : Type 0 where
  pub words : length (body_text (order_in big b) b) % 4 ≡ 0
  pub sized : 12 + length (body_text (order_in big b) b) < 2 ^ 32

abbrev pub IsBlock : List Interface → Block → Type 0
IsBlock interfaces (Section big minor unread) = 8 ≤ length unread
IsBlock interfaces (Describes link unread options ended) = (length interfaces < 256) × (link < 2 ^ 16) × (length unread ≡ 6) × AreOptions options
IsBlock interfaces (Enhanced interface high low original captured padding options) =
    (interface < length interfaces) × (interface < 2 ^ 32) × (high < 2 ^ 32) × (low < 2 ^ 32)
    × (32 + length captured + length padding + length options ≤ 327_712)
IsBlock interfaces (Unknown kind body) = (kind < 2 ^ 32) × (kind ≢ section_type) × (kind ≢ 1) × (kind ≢ 5) × (kind ≢ 6)

abbrev pub AreBlocks : (big : Bool) → List Interface → List Block → Type 0
AreBlocks big interfaces [] = ⊤
AreBlocks big interfaces (b ∷ blocks) = HasBody big b × IsBlock interfaces b × AreBlocks (order_in big b) (interfaces_with interfaces b) blocks

-- A file of pcapng that begins with a section header is read as what its blocks tell, in each section's order of bytes.
abbrev pub BlocksReadBack : Type 0
BlocksReadBack = (limit : ℕ) (big : Bool) (minor : ℕ) (unread : List ℕ) (blocks : List Block) → AreBlocks big [] (Section big minor unread ∷ blocks)
    → length blocks ≤ limit → length (blocks_text big (Section big minor unread ∷ blocks)) < 2 ^ 64
    → (parts : List Part) × IsCapture limit (blocks_text big (Section big minor unread ∷ blocks)) parts × (pieces_of parts ≡ told_by_all [] (Section big minor unread ∷ blocks))

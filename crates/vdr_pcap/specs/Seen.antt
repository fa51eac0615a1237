-- What the reader's parts hold, as what the definitions say of it, and what its reads did to the input.
use Rattle.std.specs.Prelude.{◌≡◌, ◌≤◌, ◌<◌, ℕ, ◌+◌, Bool, true, false, List, [], ◌++◌, length, take, drop, Option, None, Some, IfSome, ◌≢◌, ⊤}
use Rattle.std.specs.Io.KnownBytes.{Consumes, IsAtEnd}
use Rattle.vdr_terms.specs.Stamps.{last_stamp}
use Rattle.vdr_pcap.specs.Blocks.{fixed_size, front_in, noted_in, section_type}
use Rattle.vdr_pcap.specs.Numbers.{u32_in}
use Rattle.vdr_pcap.specs.Options.{options_from}
use Rattle.vdr_pcap.specs.Packets.{Parsed, Ends, Refuses, Reads, Nothing, Unread, Packet, Piece, Standing}
use Rattle.vdr_pcap.specs.declared.form.Said.{Said}
use Rattle.vdr_pcap.specs.declared.options.Noted.{Noted}
use Rattle.vdr_pcap.specs.declared.options.NextOption.{NextOption}
use Rattle.vdr_pcap.specs.declared.options.NextOption.TheVariants.{Short, Last, More}
use Rattle.vdr_pcap.specs.declared.unit.Unit.{Unit as Found}
use Rattle.vdr_pcap.specs.declared.unit.Unit.TheVariants as found

abbrev pub standing_of : Said → Standing
standing_of s = record { form = s.form; interfaces = s.interfaces.items; lost = s.lost }

-- a packet of which so many bytes of a front were captured
abbrev pub front_piece : (link : ℕ) → (stamp : Option ℕ) → (kept : ℕ) → (front : List ℕ) → Piece
front_piece link stamp kept front = Packet (record { link = link; stamp = stamp; front = take kept front })

-- with what has been said behind it, and the bytes of a packet at the front of a buffer
abbrev pub parsed_as : Found → Standing → (front : List ℕ) → Parsed
parsed_as (found.Refuses number) s front = Refuses number
parsed_as (found.Says size) s front = Reads size s Nothing
parsed_as (found.Unread size) s front = Reads size s Unread
parsed_as (found.Packet size link stamp kept) s front = Reads size s (front_piece link stamp kept front)

-- ---- reads

-- The buffer was filled, or the input ended before.
abbrev pub Fills : (old new : Option (List ℕ)) → (buffer : List ℕ) → Bool → Type 0
Fills old new buffer true = Consumes old new buffer
Fills old new buffer false = (part : List ℕ) × (length part < length buffer) × Consumes old new part × IsAtEnd new

-- So many bytes were passed over, or the input ended before.
abbrev pub Passes : (old new : Option (List ℕ)) → (size : ℕ) → Bool → Type 0
Passes old new size true = (bytes : List ℕ) × (length bytes ≡ size) × Consumes old new bytes
Passes old new size false = (part : List ℕ) × (length part < size) × Consumes old new part × IsAtEnd new

-- So many bytes were read, of which this is so, or the input ended before.
abbrev pub Takes : {T : Type 0} → (old new : Option (List ℕ)) → (size : ℕ) → (List ℕ → T → Type 0) → Option T → Type 0
Takes old new size P None = (part : List ℕ) × (length part < size) × Consumes old new part × IsAtEnd new
Takes old new size P (Some x) = (bytes : List ℕ) × (length bytes ≡ size) × Consumes old new bytes × P bytes x

-- Of an area of options of which so many bytes are left one more was read.
abbrev pub ReadsOption : (old new : Option (List ℕ)) → (big : Bool) → (kind : ℕ) → Noted → (left : ℕ) → NextOption → Type 0
ReadsOption old new big kind noted left Short = (part : List ℕ) × (length part < left) × Consumes old new part × IsAtEnd new
ReadsOption old new big kind noted left (Last said after) = (bytes : List ℕ) × (length bytes + after ≡ left) × Consumes old new bytes
    × ((rest : List ℕ) → length rest ≡ after → options_from big kind noted 0 (bytes ++ rest) ≡ said)
ReadsOption old new big kind noted left (More next after) = (bytes : List ℕ) × (length bytes + after ≡ left) × (after < left) × Consumes old new bytes
    × ((rest : List ℕ) → length rest ≡ after → options_from big kind noted 0 (bytes ++ rest) ≡ options_from big kind next 0 rest)

-- Of so many bytes behind a block's bytes at fixed places the options were noted, and the front of a packet was kept.
pub record IsRest (big : Bool) (kind : ℕ) (bytes : List ℕ) (noted : Option Noted) (kept : ℕ) (front : List ℕ) : Type 0 where
  pub noted_is : noted ≡ noted_in big kind bytes
  pub front_is : take kept front ≡ front_in kind bytes
  pub within : kept ≤ 2048

-- Of a block's body of so many bytes and of the length behind it these were read.
pub record IsBody (big : Bool) (kind size : ℕ) (bytes fixed : List ℕ) (noted : Option Noted) (kept : ℕ) (front : List ℕ) (again : ℕ) : Type 0 where
  pub fixed_is : fixed ≡ take (fixed_size kind) (take size bytes)
  pub rest_is : IsRest big kind (drop (fixed_size kind) (take size bytes)) noted kept front
  pub again_is : again ≡ u32_in big 0 (drop size bytes)

-- ---- what stands there

-- a fact about the bytes left, where they are known
abbrev pub IfKnown : Option (List ℕ) → (List ℕ → Type 0) → Type 0
IfKnown None P = ⊤
IfKnown (Some bytes) P = P bytes

-- the bytes of a packet or block were read, behind so many of it, or what stands there is refused
abbrev pub Tells : (old new : Option (List ℕ)) → (List ℕ → Parsed) → (before : ℕ) → Found → Standing → (front : List ℕ) → Type 0
Tells old new p before (found.Refuses number) s front = IfKnown old (λ bytes. p bytes ≡ Refuses number)
Tells old new p before (found.Says size) s front = (bytes : List ℕ) × (before + length bytes ≡ size) × Consumes old new bytes × (p bytes ≡ Reads size s Nothing)
Tells old new p before (found.Unread size) s front = (bytes : List ℕ) × (before + length bytes ≡ size) × Consumes old new bytes × (p bytes ≡ Reads size s Unread)
Tells old new p before (found.Packet size link stamp kept) s front = (bytes : List ℕ) × (before + length bytes ≡ size) × Consumes old new bytes × (p bytes ≡ Reads size s (front_piece link stamp kept front))

-- The same, or the end of the input was found.
abbrev pub TellsOrEnds : (old new : Option (List ℕ)) → (List ℕ → Parsed) → (s s' : Standing) → (front : List ℕ) → Option Found → Type 0
TellsOrEnds old new p s s' front None = Consumes old new [] × IsAtEnd new × (p [] ≡ Ends) × (s' ≡ s)
TellsOrEnds old new p s s' front (Some unit) = Tells old new p 0 unit s' front

-- how many bytes a packet or block has
abbrev pub HasSize : Found → ℕ → Type 0
HasSize (found.Refuses number) n = ⊤
HasSize (found.Says size) n = n ≡ size
HasSize (found.Unread size) n = n ≡ size
HasSize (found.Packet size link stamp kept) n = n ≡ size

-- What a packet has: no more bytes than the front, and a stamp that is one. A section tells of no packet.
abbrev pub Fits : (kind longest : ℕ) → Found → Type 0
Fits kind longest (found.Refuses number) = ⊤
Fits kind longest (found.Says size) = ⊤
Fits kind longest (found.Unread size) = kind ≢ section_type
Fits kind longest (found.Packet size link stamp kept) = (kind ≢ section_type) × (kept ≤ longest) × IfSome stamp (λ t. t ≤ last_stamp)

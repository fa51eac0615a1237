-- A packet of pcap, and a block of pcapng.
use Rattle.std.specs.Prelude.{ℕ, ◌+◌, ◌-◌, ◌*◌, ◌%◌, ◌^◌, Bool, true, false, not, ◌&&◌, ◌||◌, ◌==◌, nat_le, nat_lt, List, [], ◌∷◌, ◌++◌, length, take, drop, slice_index_or, set, Option, None, Some, if◌then◌else◌}
use Rattle.vdr_pcap.specs.Numbers.{u16_in, u32_in}
use Rattle.vdr_pcap.specs.Options.{none_noted, options_from}
use Rattle.vdr_pcap.specs.Packets.{longest_front, Captured, Parsed, Ends, Refuses, Reads, Nothing, Unread, Packet, Standing, lost_with}
use Rattle.vdr_pcap.specs.Stamps.{stamp_of_fraction, stamp_of_units}
use Rattle.vdr_pcap.specs.declared.form.Form.{Form}
use Rattle.vdr_pcap.specs.declared.form.Form.TheVariants.{Unbegun, Packets, Blocks}
use Rattle.vdr_pcap.specs.declared.form.Interface.{Interface}
use Rattle.vdr_pcap.specs.declared.options.Noted.{Noted}

-- ---- pcap

-- A packet: seconds, fraction, captured length and original length, and so many bytes.
abbrev pub packet_at : (big nano : Bool) → (link : ℕ) → Standing → (head bytes : List ℕ) → Parsed
packet_at big nano link s head bytes = Reads (16 + u32_in big 8 head) s (Packet (record {
  link = link;
  stamp = stamp_of_fraction nano (u32_in big 0 head) (u32_in big 4 head);
  front = take longest_front (take (u32_in big 8 head) bytes);
}))

abbrev pub packet_in : (big nano : Bool) → (link : ℕ) → Standing → (head bytes : List ℕ) → Parsed
packet_in big nano link s head bytes =
    if nat_lt 262_144 (u32_in big 8 head) then Refuses 4
    else if nat_lt (length bytes) (u32_in big 8 head) then Refuses 2
    else packet_at big nano link s head bytes

abbrev pub pcap_packet : (big nano : Bool) → (link : ℕ) → Standing → List ℕ → Parsed
pcap_packet big nano link s bytes =
    if nat_lt (length bytes) 16 then Refuses 2
    else packet_in big nano link s (take 16 bytes) (drop 16 bytes)

-- The header of a file behind its magic: 20 bytes, the major version at 0 and the type of link at 16.
abbrev pub header_at : (big nano : Bool) → Standing → (head : List ℕ) → Parsed
header_at big nano s head =
    if u16_in big 0 head == 2 then Reads 24 (record s { form = Packets big nano (u32_in big 16 head % 65_536) }) Nothing
    else Refuses 3

abbrev pub pcap_header : (big nano : Bool) → Standing → List ℕ → Parsed
pcap_header big nano s bytes =
    if nat_lt (length bytes) 20 then Refuses 2
    else header_at big nano s (take 20 bytes)

-- ---- pcapng: what a block says, of which the first bytes are `fixed`, and the others options, or the bytes of a packet

abbrev pub section_type : ℕ
section_type = 0x0A0D0D0A

-- A section begins the interfaces anew. Behind its magic stands the major version.
abbrev pub section_block : (big : Bool) → (len : ℕ) → Standing → (fixed : List ℕ) → Parsed
section_block big len s fixed =
    if u16_in big 0 fixed == 1
    then Reads len (record { form = Blocks big; interfaces = []; lost = lost_with s.lost s.interfaces }) Nothing
    else Refuses 3

-- the value that was noted, or else this one
abbrev pub noted_or : Option ℕ → ℕ → ℕ
noted_or None usual = usual
noted_or (Some n) usual = n

-- An interface's units are microseconds where it says nothing else.
abbrev pub interface_of : (link : ℕ) → Noted → Interface
interface_of link noted = record { link = link; resolution = noted_or noted.resolution 6; added = noted_or noted.number 0; lost = 0 }

abbrev pub with_interface : (len link : ℕ) → Standing → Option Noted → Parsed
with_interface len link s None = Refuses 4
with_interface len link s (Some noted) = Reads len (record s { interfaces = s.interfaces ++ interface_of link noted ∷ [] }) Nothing

abbrev pub interface_block : (big : Bool) → (len : ℕ) → Standing → (fixed : List ℕ) → Option Noted → Parsed
interface_block big len s fixed noted =
    if nat_le 256 (length s.interfaces) then Refuses 6
    else with_interface len (u16_in big 0 fixed) s noted

-- of an interface that is not there
abbrev pub no_interface : Interface
no_interface = record { link = 0; resolution = 0; added = 0; lost = 0 }

abbrev pub interface_at : Standing → ℕ → Interface
interface_at s k = slice_index_or s.interfaces k no_interface

-- a packet of an interface
abbrev pub packet_of : (big : Bool) → Interface → (fixed front : List ℕ) → Captured
packet_of big i fixed front = record {
  link = i.link;
  stamp = stamp_of_units i.resolution i.added (2 ^ 32 * u32_in big 4 fixed + u32_in big 8 fixed);
  front = take (u32_in big 12 fixed) front;
}

abbrev pub packet_block : (big : Bool) → (len : ℕ) → Standing → (fixed front : List ℕ) → Parsed
packet_block big len s fixed front =
    if nat_le (length s.interfaces) (u32_in big 0 fixed) then Refuses 5
    else if nat_lt (len - 32) (u32_in big 12 fixed) then Refuses 4
    else Reads len s (Packet (packet_of big (interface_at s (u32_in big 0 fixed)) fixed front))

-- The last statistics of an interface count.
abbrev pub losing : Interface → Option ℕ → Interface
losing i None = i
losing i (Some lost) = record i { lost = lost }

abbrev pub with_statistics : (len k : ℕ) → Standing → Option Noted → Parsed
with_statistics len k s None = Refuses 4
with_statistics len k s (Some noted) = Reads len (record s { interfaces = set s.interfaces k (losing (interface_at s k) noted.number) }) Nothing

abbrev pub statistics_block : (big : Bool) → (len : ℕ) → Standing → (fixed : List ℕ) → Option Noted → Parsed
statistics_block big len s fixed noted =
    if nat_le (length s.interfaces) (u32_in big 0 fixed) then Refuses 5
    else with_statistics len (u32_in big 0 fixed) s noted

-- By its type. The old packet block and the simple one, which has no stamp, tell of a packet that is not read.
abbrev pub block_says : (big : Bool) → (kind len : ℕ) → Standing → (fixed : List ℕ) → Option Noted → (front : List ℕ) → Parsed
block_says big kind len s fixed noted front =
    if kind == section_type then section_block big len s fixed
    else if kind == 1 then interface_block big len s fixed noted
    else if kind == 6 then packet_block big len s fixed front
    else if kind == 5 then statistics_block big len s fixed noted
    else if kind == 2 || kind == 3 then Reads len s Unread
    else Reads len s Nothing

-- ---- how a block stands in the file

-- how many of a block's bytes are at fixed places; of a section behind its magic
abbrev pub fixed_size : ℕ → ℕ
fixed_size kind =
    if kind == section_type then 4
    else if kind == 1 then 8
    else if kind == 6 then 20
    else if kind == 5 then 12
    else 0

abbrev pub least : ℕ → ℕ
least kind =
    if kind == section_type then 28
    else if kind == 1 then 20
    else if kind == 6 then 32
    else if kind == 5 then 24
    else 12

-- a length that no block of this type has
abbrev pub is_bad_length : (kind len : ℕ) → Bool
is_bad_length kind len = not (len % 4 == 0) || nat_lt len (least kind) || (kind == 6 && nat_lt 327_712 len)

-- an interface and statistics have options that are noted
abbrev pub has_options : ℕ → Bool
has_options kind = kind == 1 || kind == 5

abbrev pub noted_in : (big : Bool) → (kind : ℕ) → List ℕ → Option Noted
noted_in big kind bytes = if has_options kind then options_from big kind none_noted 0 bytes else None

-- the front of a packet's bytes
abbrev pub front_in : (kind : ℕ) → List ℕ → List ℕ
front_in kind bytes = if kind == 6 then take longest_front bytes else []

-- what a block of these bytes, behind its type, its length and a magic, says
abbrev pub block_said : (big : Bool) → (kind len : ℕ) → Standing → (body : List ℕ) → Parsed
block_said big kind len s body =
    block_says big kind len s (take (fixed_size kind) body) (noted_in big kind (drop (fixed_size kind) body)) (front_in kind (drop (fixed_size kind) body))

-- A block with a body of so many bytes, behind which its length stands again.
abbrev pub block_with : (big : Bool) → (kind len size : ℕ) → Standing → List ℕ → Parsed
block_with big kind len size s bytes =
    if nat_lt (length bytes) (size + 4) then Refuses 2
    else if u32_in big 0 (drop size bytes) == len then block_said big kind len s (take size bytes)
    else Refuses 4

-- A block of this length, of which so many bytes stand before these.
abbrev pub block_of : (big : Bool) → (kind len before : ℕ) → Standing → List ℕ → Parsed
block_of big kind len before s bytes =
    if is_bad_length kind len then Refuses 4
    else block_with big kind len (len - (before + 4)) s bytes

-- the order of a section's numbers, by its magic read with the least significant byte first
abbrev pub order_of : ℕ → Option Bool
order_of magic = if magic == 0x1A2B3C4D then Some false else if magic == 0x4D3C2B1A then Some true else None

abbrev pub section_in : Option Bool → Standing → (size : List ℕ) → List ℕ → Parsed
section_in None s size bytes = Refuses 3
section_in (Some big) s size bytes = block_of big section_type (u32_in big 0 size) 12 s bytes

-- a section's header behind its type and the four bytes of its length
abbrev pub section : Standing → (size : List ℕ) → List ℕ → Parsed
section s size bytes =
    if nat_lt (length bytes) 4 then Refuses 2
    else section_in (order_of (u32_in false 0 (take 4 bytes))) s size (drop 4 bytes)

abbrev pub sized : (big : Bool) → (kind : ℕ) → Standing → (size : List ℕ) → List ℕ → Parsed
sized big kind s size bytes =
    if kind == section_type then section s size bytes
    else block_of big kind (u32_in big 0 size) 8 s bytes

-- a block behind its type
abbrev pub typed : (big : Bool) → (kind : ℕ) → Standing → List ℕ → Parsed
typed big kind s bytes =
    if nat_lt (length bytes) 4 then Refuses 2
    else sized big kind s (take 4 bytes) (drop 4 bytes)

abbrev pub block_in : (big : Bool) → Standing → List ℕ → Parsed
block_in big s bytes =
    if nat_lt (length bytes) 4 then Refuses 2
    else typed big (u32_in big 0 (take 4 bytes)) s (drop 4 bytes)

-- ---- the beginning of a capture, by its first four bytes

abbrev pub file_of : (magic : ℕ) → Standing → List ℕ → Parsed
file_of magic s bytes =
    if magic == section_type then typed false section_type s bytes
    else if magic == 0xA1B2C3D4 then pcap_header false false s bytes
    else if magic == 0xD4C3B2A1 then pcap_header true false s bytes
    else if magic == 0xA1B23C4D then pcap_header false true s bytes
    else if magic == 0x4D3CB2A1 then pcap_header true true s bytes
    else Refuses 1

abbrev pub beginning : Standing → List ℕ → Parsed
beginning s bytes =
    if nat_lt (length bytes) 4 then Refuses 1
    else file_of (u32_in false 0 (take 4 bytes)) s (drop 4 bytes)

-- ---- what stands at the front of some bytes

abbrev pub parsed_packet : (big nano : Bool) → (link : ℕ) → Standing → List ℕ → Parsed
parsed_packet big nano link s bytes = if nat_lt (length bytes) 1 then Ends else pcap_packet big nano link s bytes

abbrev pub parsed_block : (big : Bool) → Standing → List ℕ → Parsed
parsed_block big s bytes = if nat_lt (length bytes) 1 then Ends else block_in big s bytes

abbrev pub further : Form → Standing → List ℕ → Parsed
further Unbegun s bytes = Refuses 1
further (Packets big nano link) s bytes = parsed_packet big nano link s bytes
further (Blocks big) s bytes = parsed_block big s bytes

-- behind what has begun a capture
abbrev pub parsed : Standing → List ℕ → Parsed
parsed s bytes = further s.form s bytes

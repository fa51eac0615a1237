-- Captures as they are written, byte by byte: a file of pcap ("PCAP Capture File Format", draft-ietf-opsawg-pcap).
use Rattle.std.specs.Prelude.{◌≡◌, ◌≤◌, ◌<◌, ℕ, ◌%◌, ◌^◌, Bool, List, [], ◌∷◌, ◌++◌, length, map, take, if◌then◌else◌}
use Rattle.std.specs.Int.{w16, w32, to_le_bytes, to_be_bytes}
use Rattle.std.specs.List.{flat_map}
use Rattle.vdr_pcap.specs.Capture.{IsCapture, Part, pieces_of}
use Rattle.vdr_pcap.specs.Packets.{Captured, Nothing, Packet, Piece, longest_front}
use Rattle.vdr_pcap.specs.Stamps.{stamp_of_fraction}

-- a number of two or four bytes, the most significant first or last
abbrev pub u16_bytes : (big : Bool) → ℕ → List ℕ
u16_bytes big n = if big then to_be_bytes w16 n else to_le_bytes w16 n

abbrev pub u32_bytes : (big : Bool) → ℕ → List ℕ
u32_bytes big n = if big then to_be_bytes w32 n else to_le_bytes w32 n

-- ---- pcap

-- The header of a file: the order of its numbers, whether its fractions are nanoseconds, the minor version, the type of the link, and 12
-- bytes that nobody looks at: time zone, accuracy and the length limit.
pub record FileHeader : Type 0 where
  pub big : Bool
  pub nano : Bool
  pub minor : ℕ
  pub unread : List ℕ
  pub link : ℕ

pub record IsFileHeader (h : FileHeader) : Type 0 where
  pub unread : length h.unread ≡ 12
  pub link : h.link < 2 ^ 32

abbrev pub magic_of : (nano : Bool) → ℕ
magic_of nano = if nano then 0xA1B23C4D else 0xA1B2C3D4

-- A packet: seconds and a fraction, how long it was, and what was captured of it.
pub record FilePacket : Type 0 where
  pub seconds : ℕ
  pub fraction : ℕ
  pub original : ℕ
  pub captured : List ℕ

pub record IsFilePacket (p : FilePacket) : Type 0 where
  pub seconds : p.seconds < 2 ^ 32
  pub fraction : p.fraction < 2 ^ 32
  pub few : length p.captured ≤ 262_144

abbrev pub AreFilePackets : List FilePacket → Type 0
AreFilePackets [] = Unit {0}
AreFilePackets (p ∷ packets) = IsFilePacket p × AreFilePackets packets

abbrev pub header_text : FileHeader → List ℕ
header_text h = u32_bytes h.big (magic_of h.nano) ++ (u16_bytes h.big 2 ++ (u16_bytes h.big h.minor ++ (h.unread ++ u32_bytes h.big h.link)))

abbrev pub packet_text : (big : Bool) → FilePacket → List ℕ
packet_text big p = u32_bytes big p.seconds ++ (u32_bytes big p.fraction ++ (u32_bytes big (length p.captured) ++ (u32_bytes big p.original ++ p.captured)))

-- The file of these packets.
abbrev pub file_text : FileHeader → List FilePacket → List ℕ
file_text h packets = header_text h ++ flat_map (packet_text h.big) packets

-- What a packet tells.
abbrev pub captured_in : FileHeader → FilePacket → Captured
captured_in h p = record {
  link = h.link % 65_536;
  stamp = stamp_of_fraction h.nano p.seconds p.fraction;
  front = take longest_front p.captured;
}

abbrev pub told_of : FileHeader → List FilePacket → List Piece
told_of h packets = Nothing ∷ map (λ (p : FilePacket). Packet (captured_in h p)) packets

-- A file of pcap is read as the packets that it was written of, in either order of bytes and in either unit, whatever else its header says.
abbrev pub FilesReadBack : Type 0
FilesReadBack = (limit : ℕ) (h : FileHeader) (packets : List FilePacket) → IsFileHeader h → AreFilePackets packets
    → length packets ≤ limit → length (file_text h packets) < 2 ^ 64
    → (parts : List Part) × IsCapture limit (file_text h packets) parts × (pieces_of parts ≡ told_of h packets)

-- Packets as pcap and pcapng capture them, and the state of a capture between two of them.
use Rattle.std.specs.Prelude.{ℕ, ◌+◌, ◌^◌, ◌-◌, min, List, [], ◌∷◌, Option}
use Rattle.vdr_pcap.specs.declared.form.Form.{Form}
use Rattle.vdr_pcap.specs.declared.form.Form.TheVariants.{Unbegun}
use Rattle.vdr_pcap.specs.declared.form.Interface.{Interface}

-- The longest front of a packet that is looked at. The headers and the payload that count are no longer.
abbrev pub longest_front : ℕ
longest_front = 2048

-- A captured packet: the type of its link, its stamp in milliseconds since 1970 where it has one, and its captured bytes, or the front
-- of them that is looked at.
pub record Captured : Type 0 where
  pub link : ℕ
  pub stamp : Option ℕ
  pub front : List ℕ

-- What one packet or block of a file tells: nothing, a packet that has no stamp and is not read, or a packet.
pub data Piece : Type 0 where
  Nothing : Piece
  Unread : Piece
  Packet : (captured : Captured) → Piece

-- What has been said before a packet or block.
pub record Standing : Type 0 where
  -- nothing, a pcap file, or a section of pcapng
  pub form : Form
  -- the section's interfaces
  pub interfaces : List Interface
  -- the packets that captures lost in the sections before
  pub lost : ℕ

abbrev pub no_standing : Standing
no_standing = record { form = Unbegun; interfaces = []; lost = 0 }

-- What stands at the front of some bytes: nothing; what is refused, by its number; or a packet or block of this size, what has then
-- been said, and what it tells.
pub data Parsed : Type 0 where
  Ends : Parsed
  Refuses : (number : ℕ) → Parsed
  Reads : (size : ℕ) → (next : Standing) → (piece : Piece) → Parsed

-- The packets lost, with those of these interfaces. The sum stands still at the greatest number of 64 bits.
abbrev pub lost_with : ℕ → List Interface → ℕ
lost_with lost [] = lost
lost_with lost (i ∷ interfaces) = lost_with (min (lost + i.lost) (2 ^ 64 - 1)) interfaces

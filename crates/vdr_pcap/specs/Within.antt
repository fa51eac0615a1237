-- A packet of pcap that lies whole in bytes that were read ahead, and what a reader makes of it there.
use Rattle.std.specs.Prelude.{◌≡◌, ◌≤◌, ◌<◌, ℕ, ◌-◌, Bool, true, ◌&&◌, nat_le, List, [], ◌∷◌, length, take, drop, Some, ⊤}
use Rattle.vdr_pcap.specs.Blocks.{parsed}
use Rattle.vdr_pcap.specs.Capture.{Course, Refused as Refuses, step}
use Rattle.vdr_pcap.specs.Numbers.{u32_in}
use Rattle.vdr_pcap.specs.Packets.{Packet, Piece, Reads, Standing}
use Rattle.vdr_pcap.specs.Steps.{Gives}
use Rattle.vdr_pcap.specs.Taken.{item_lent}
use Rattle.vdr_pcap.specs.declared.form.Form.{Form}
use Rattle.vdr_pcap.specs.declared.form.Form.TheVariants.{Unbegun, Packets, Blocks}
use Rattle.vdr_pcap.specs.declared.fronts.Front.{Front}
use Rattle.vdr_pcap.specs.declared.within.Within.{Within}
use Rattle.vdr_pcap.specs.declared.within.Within.TheVariants as within

-- The 16 bytes of a packet's head, whose captured length is one, and so many bytes behind them are there.
abbrev pub is_whole : (big : Bool) → List ℕ → Bool
is_whole big bytes = nat_le 16 (length bytes) && (nat_le (u32_in big 8 bytes) 262_144 && nat_le (u32_in big 8 bytes) (length bytes - 16))

abbrev pub front_packet : Front → Piece
front_packet f = Packet (record { link = f.link; stamp = f.stamp; front = f.bytes.now })

-- A packet that lies at the front of some bytes, and not beyond them.
pub record IsFront (s : Standing) (bytes : List ℕ) (f : Front) : Type 0 where
  pub within : f.size ≤ length bytes
  pub is : parsed s (take f.size bytes) ≡ Reads f.size s (front_packet f)

-- Of a packet of pcap that lies whole at the front of the bytes: it may not follow.
abbrev pub IsLeft : (form : Form) → (limit : ℕ) → Course → List ℕ → Type 0
IsLeft Unbegun limit c bytes = ⊤
IsLeft (Packets big nano link) limit c bytes = is_whole big bytes ≡ true → step limit true c bytes ≡ Refuses 7
IsLeft (Blocks big) limit c bytes = ⊤

-- What was taken of the front of the bytes: nothing; a packet of so many bytes that is left out; or one that is this item.
abbrev pub TakesFront : (limit : ℕ) → (bytes : List ℕ) → (c c' : Course) → Within → Type 0
TakesFront limit bytes c c' within.Nothing = (c' ≡ c) × IsLeft c.standing.form limit c bytes
TakesFront limit bytes c c' (within.Passed size) = (0 < size) × (size ≤ length bytes) × Gives (Some bytes) (Some (drop size bytes)) limit c c' []
TakesFront limit bytes c c' (within.Item size item) = (0 < size) × (size ≤ length bytes) × Gives (Some bytes) (Some (drop size bytes)) limit c c' (item_lent item ∷ [])

-- An item has at most 1,473 bytes.
abbrev pub IsShort : Within → Type 0
IsShort within.Nothing = ⊤
IsShort (within.Passed size) = ⊤
IsShort (within.Item size item) = length item.body.now ≤ 1473

-- What holds of every packet.
use Rattle.std.specs.Prelude.{◌≡◌, ◌≤◌, ℕ, List, take}
use Rattle.vdr_frame.specs.Outcomes.{IsItem}
use Rattle.vdr_frame.specs.Packets.{found_in}

-- the bytes of a packet that count: the longest header of a link, the longest one of IPv4, and UDP's with 1,473 bytes of payload
abbrev pub longest_front : ℕ
longest_front = 1569

-- Bytes behind those are never looked at: a reader may pass over them.
abbrev pub FrontDecides : Type 0
FrontDecides = (link n : ℕ) (bytes : List ℕ) → longest_front ≤ n → found_in link (take n bytes) ≡ found_in link bytes

-- What is found is of one of the sixteen groups, and has a payload of at most 1,473 bytes.
abbrev pub FoundAreItems : Type 0
FoundAreItems = (link : ℕ) (bytes : List ℕ) → IsItem (found_in link bytes)

-- Two readings of one input agree, and what the items of a capture are.
use Rattle.std.specs.Prelude.{◌≡◌, ℕ, ℤ, pos, false, List, filter, map, ◌==◌}
use Rattle.vdr_terms.specs.Records.{FeedItem}
use Rattle.vdr_feed.specs.Feed.{AreItems}
use Rattle.vdr_pcap.specs.Account.{Datagram, datagrams_of, items_of}
use Rattle.vdr_pcap.specs.Capture.{AreParts, IsCapture, IsRefused, Part, no_course, pieces_of}
use Rattle.vdr_pcap.specs.Packets.{Piece}

-- The bytes are a capture of one list of packets and blocks only.
abbrev pub OneCapture : Type 0
OneCapture = (limit : ℕ) (bytes : List ℕ) (parts others : List Part) → IsCapture limit bytes parts → IsCapture limit bytes others → parts ≡ others

-- A capture is not refused.
abbrev pub NoCaptureIsRefused : Type 0
NoCaptureIsRefused = (limit : ℕ) (bytes : List ℕ) (parts : List Part) (number offset : ℕ) → IsCapture limit bytes parts → IsRefused limit bytes number offset → ⊥

-- What is refused is refused by one number, at one offset.
abbrev pub OneRefusal : Type 0
OneRefusal = (limit : ℕ) (bytes : List ℕ) (number offset other at : ℕ)
    → IsRefused limit bytes number offset → IsRefused limit bytes other at → (number ≡ other) × (offset ≡ at)

-- The items of packets and blocks that may stand in a capture may stand in a feed.
abbrev pub ItemsAreLegal : Type 0
ItemsAreLegal = (limit : ℕ) (parts : List Part) → AreParts limit false no_course parts → AreItems 0 (items_of (pieces_of parts))

-- What a sender sent to a group: when it was captured, and the payload, none of a datagram that was cut.
pub record Sent : Type 0 where
  pub group : ℕ
  pub utc : ℤ
  pub payload : List ℕ

abbrev pub item_sent : FeedItem → Sent
item_sent i = record { group = i.group; utc = i.item.utc; payload = i.item.bytes }

abbrev pub datagram_sent : Datagram → Sent
datagram_sent d = record { group = d.group; utc = pos d.utc; payload = d.payload }

abbrev pub to_group : ℕ → List Sent → List Sent
to_group g sent = filter (λ (s : Sent). s.group == g) sent

-- The items of a group are the whole and cut datagrams to its port, one to one and in the capture's order.
abbrev pub ItemsAreDatagrams : Type 0
ItemsAreDatagrams = (g : ℕ) (pieces : List Piece) → to_group g (map item_sent (items_of pieces)) ≡ to_group g (map datagram_sent (datagrams_of pieces))

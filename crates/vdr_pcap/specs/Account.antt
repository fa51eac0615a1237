-- What becomes of each packet of a capture: the items of its datagrams to the ports of the groups, and the counts of the others.
use Rattle.std.specs.Prelude.{ℕ, ◌+◌, ◌-◌, ◌^◌, Bool, true, false, ◌&&◌, ◌==◌, nat_le, nat_lt, min, max, pos, replicate, get_or, set, List, [], ◌∷◌, ◌++◌, Option, None, Some, if◌then◌else◌}
use Rattle.vdr_terms.specs.Records.{FeedItem}
use Rattle.vdr_frame.specs.Packets.{found_in}
use Rattle.vdr_frame.specs.Outcomes.{Outcome, Left, Cut, Whole}
use Rattle.vdr_frame.specs.declared.found.Cause.{Cause}
use Rattle.vdr_frame.specs.declared.found.Cause.TheVariants.{Link, Short, Protocol, Ipv6, Fragment, Malformed, Port}
use Rattle.vdr_pcap.specs.Packets.{Captured, Piece, Nothing, Unread, Packet}
use Rattle.vdr_pcap.specs.declared.account.Account.{Account}

-- The rows of what is left out: the causes of a packet, and behind `port` the 48 ports of the standard's other groups; then the stamp that
-- is none, and a packet of a block that is not read.
abbrev pub row_of : Cause → ℕ
row_of Link = 0
row_of Short = 1
row_of Protocol = 2
row_of Ipv6 = 3
row_of Fragment = 4
row_of Malformed = 5
row_of (Port port) = if nat_le 60_017 port && nat_le port 60_064 then 7 + (port - 60_017) else 6

abbrev pub stamp_row : ℕ
stamp_row = 55

abbrev pub block_row : ℕ
block_row = 56

-- A datagram to the port of a group, with the stamp of its packet: whole, with its payload, or cut, without.
pub record Datagram : Type 0 where
  pub group : ℕ
  pub utc : ℕ
  pub payload : List ℕ
  pub is_whole : Bool

-- What becomes of a packet: it is left out, and counted in this row, or it is a datagram.
pub data Fate : Type 0 where
  LeftOut : (row : ℕ) → Fate
  Given : (datagram : Datagram) → Fate

abbrev pub fate_at : (group : ℕ) → (payload : List ℕ) → Bool → (stamp : Option ℕ) → Fate
fate_at group payload whole None = LeftOut stamp_row
fate_at group payload whole (Some utc) = Given (record { group = group; utc = utc; payload = payload; is_whole = whole })

-- of a packet that is this, with this stamp where it has one
abbrev pub fate_of : Outcome → (stamp : Option ℕ) → Fate
fate_of (Left cause) stamp = LeftOut (row_of cause)
fate_of (Cut group) stamp = fate_at group [] false stamp
fate_of (Whole group payload) stamp = fate_at group payload true stamp

abbrev pub fate : Captured → Fate
fate c = fate_of (found_in c.link c.front) c.stamp

abbrev pub datagram_in : Fate → Option Datagram
datagram_in (LeftOut row) = None
datagram_in (Given d) = Some d

-- The datagram that a piece of a capture tells of.
abbrev pub datagram_of : Piece → Option Datagram
datagram_of Nothing = None
datagram_of Unread = None
datagram_of (Packet c) = datagram_in (fate c)

-- ---- the account

abbrev pub no_account : Account
no_account = record { packets = 0; whole = replicate 16 0; cut = replicate 16 0; left = replicate 57 0; back = 0; items = 0; first = 0; greatest = 0 }

-- A count stands still at the greatest number of 64 bits.
abbrev pub more : ℕ → ℕ
more n = min (n + 1) (2 ^ 64 - 1)

abbrev pub more_at : ℕ → List ℕ → List ℕ
more_at k counts = set counts k (more (get_or counts k 0))

-- with one more item of this stamp
abbrev pub stamped : ℕ → Account → Account
stamped utc a = record a {
  items = more a.items;
  first = if a.items == 0 then utc else a.first;
  greatest = max a.greatest utc;
  back = if nat_lt utc a.greatest then more a.back else a.back;
}

-- with one more packet
abbrev pub with_fate : Fate → Account → Account
with_fate (LeftOut row) a = record a { left = more_at row a.left; packets = more a.packets }
with_fate (Given d) a = record (stamped d.utc a) {
  whole = if d.is_whole then more_at d.group a.whole else a.whole;
  cut = if d.is_whole then a.cut else more_at d.group a.cut;
  packets = more a.packets;
}

-- With one more piece.
abbrev pub counted : Piece → Account → Account
counted Nothing a = a
counted Unread a = with_fate (LeftOut block_row) a
counted (Packet c) a = with_fate (fate c) a

abbrev pub account_from : Account → List Piece → Account
account_from a [] = a
account_from a (p ∷ pieces) = account_from (counted p a) pieces

-- The account of a capture.
abbrev pub account_of : List Piece → Account
account_of pieces = account_from no_account pieces

-- ---- the items

-- When an item of this stamp behind those of an account is received: the greatest stamp so far, counted from the first item's.
abbrev pub received_at : Account → ℕ → ℕ
received_at a utc = max a.greatest utc - (if a.items == 0 then utc else a.first)

abbrev pub item_at : Account → Datagram → FeedItem
item_at a d = record { group = d.group; item = record { received = received_at a d.utc; utc = pos d.utc; bytes = d.payload } }

abbrev pub item_from : Account → Option Datagram → List FeedItem
item_from a None = []
item_from a (Some d) = item_at a d ∷ []

abbrev pub items_from : Account → List Piece → List FeedItem
items_from a [] = []
items_from a (p ∷ pieces) = item_from a (datagram_of p) ++ items_from (counted p a) pieces

-- The items of a capture.
abbrev pub items_of : List Piece → List FeedItem
items_of pieces = items_from no_account pieces

-- ---- the datagrams

abbrev pub listed : Option Datagram → List Datagram
listed None = []
listed (Some d) = d ∷ []

-- The datagrams to the ports of the groups, in the capture's order.
abbrev pub datagrams_of : List Piece → List Datagram
datagrams_of [] = []
datagrams_of (p ∷ pieces) = listed (datagram_of p) ++ datagrams_of pieces

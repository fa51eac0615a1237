-- The items of a capture: the datagrams to the ports of the groups, as they may stand in a feed.
use Rattle.std.proofs.Common.{◌≡◌, ◌≤◌, ◌<◌, ◌+◌, ◌-◌, ◌^◌, ℕ, Bool, true, false, cond, nat_eq, max, List, [], ◌∷◌, ◌++◌, length, map, Option, None, Some, refl, ap, ◌∙◌, sym, subst, arith}
use Rattle.std.proofs.lemmas.Bool.{ne_eqb}
use Rattle.vdr_terms.specs.Records.{FeedItem}
use Rattle.vdr_terms.specs.Stamps.{last_stamp}
use Rattle.vdr_feed.specs.Feed.{AreItems, IsItem}
use Rattle.vdr_frame.specs.Outcomes.{Cut, IsItem as IsFound, Left, Outcome, Whole}
use Rattle.vdr_frame.specs.Packets.{found_in}
use Rattle.vdr_frame.proofs.ItemLemmas.{found_item}
use Rattle.vdr_pcap.specs.Account.{Datagram, Fate, Given, LeftOut, counted, datagram_in, datagram_of, datagrams_of, fate, fate_of, item_at, item_from, items_from, listed, more, no_account, received_at, with_fate}
use Rattle.vdr_pcap.specs.Blocks.{beginning, parsed}
use Rattle.vdr_pcap.specs.Capture.{AreParts, Course, Ended, IsPart, Part, Refused as Refuses, Takes, is_too_much, no_course, pieces_of, step_of}
use Rattle.vdr_pcap.specs.Law.{ItemsAreDatagrams, ItemsAreLegal, Sent, datagram_sent, item_sent, to_group}
use Rattle.vdr_pcap.specs.Packets.{Ends, Nothing, Packet, Parsed, Piece, Reads, Refuses as Refused, Unread}
use Rattle.vdr_pcap.specs.declared.account.Account.{Account}
use Rattle.vdr_pcap.proofs.Timed.{InTime, IsStamped, IsTimed, timed_beginning, timed_further}

-- ---- the datagrams, one to one

one_sent : (a : Account) (o : Option Datagram) (items : List FeedItem) (datagrams : List Datagram) → map item_sent items ≡ map datagram_sent datagrams
    → map item_sent (item_from a o ++ items) ≡ map datagram_sent (listed o ++ datagrams)
one_sent a None items datagrams e = e
one_sent a (Some d) items datagrams e = λ i. datagram_sent d ∷ e i

items_sent : (a : Account) (pieces : List Piece) → map item_sent (items_from a pieces) ≡ map datagram_sent (datagrams_of pieces)
items_sent a [] = refl
items_sent a (p ∷ pieces) = one_sent a (datagram_of p) (items_from (counted p a) pieces) (datagrams_of pieces) (items_sent (counted p a) pieces)

pub items_are_datagrams : ItemsAreDatagrams
items_are_datagrams g pieces = ap (λ (sent : List Sent). to_group g sent) (items_sent no_account pieces)

-- ---- as they may stand in a feed

-- when the last item was received
abbrev floor : Account → ℕ
floor a = cond (nat_eq a.items 0) 0 (a.greatest - a.first)

-- a datagram that an item of a feed can be
abbrev IsLegal : Fate → Type 0
IsLegal (LeftOut row) = Unit {0}
IsLegal (Given d) = (d.group < 16) × (d.utc ≤ last_stamp) × (length d.payload ≤ 1473)

fate_legal : (o : Outcome) (stamp : Option ℕ) → IsFound o → IsStamped stamp → IsLegal (fate_of o stamp)
fate_legal (Left cause) stamp f s = tt
fate_legal (Cut group) None f s = tt
fate_legal (Cut group) (Some utc) f s = (f, s, omega arith)
fate_legal (Whole group payload) None f s = tt
fate_legal (Whole group payload) (Some utc) f s = (f.0, s, f.1)

-- an item is received no earlier than the one before
later : (b : Bool) (greatest first utc : ℕ) → cond b 0 (greatest - first) ≤ max greatest utc - cond b utc first
later true greatest first utc = omega arith
later false greatest first utc = omega arith

in_range : (greatest utc first : ℕ) → greatest ≤ last_stamp → utc ≤ last_stamp → max greatest utc - first < 2 ^ 48
in_range greatest utc first h k = omega (arith, h, k)

item_legal : (a : Account) (d : Datagram) → a.greatest ≤ last_stamp → IsLegal (Given d) → IsItem (floor a) (item_at a d)
item_legal a d low legal =
    let group : d.group < 16 = legal.0 in
    let payload : length d.payload ≤ 1473 = legal.2 in
    record {
      group = omega (arith, group);
      later = later (nat_eq a.items 0) a.greatest a.first d.utc;
      received = in_range a.greatest d.utc (cond (nat_eq a.items 0) d.utc a.first) low legal.1;
      utc = record { whole = refl; in_time = legal.1 };
      short = omega (arith, payload);
    }

counts : (n : ℕ) → more n ≡ 0 → ⊥
counts n e = omega (arith, e)

floor_given : (a : Account) (d : Datagram) → floor (with_fate (Given d) a) ≡ received_at a d.utc
floor_given a d = ap (λ (b : Bool). cond b 0 (max a.greatest d.utc - cond (nat_eq a.items 0) d.utc a.first)) (ne_eqb (more a.items) 0 (counts a.items))

greatest_of : (greatest utc : ℕ) → greatest ≤ last_stamp → utc ≤ last_stamp → max greatest utc ≤ last_stamp
greatest_of greatest utc h k = omega (arith, h, k)

-- one packet or block more before these items
one_fate : (a : Account) (f : Fate) (rest : List FeedItem) → IsLegal f → a.greatest ≤ last_stamp
    → ((with_fate f a).greatest ≤ last_stamp) × (AreItems (floor (with_fate f a)) rest → AreItems (floor a) (item_from a (datagram_in f) ++ rest))
one_fate a (LeftOut row) rest legal low = (low, λ r. r)
one_fate a (Given d) rest legal low =
    (greatest_of a.greatest d.utc low legal.1, λ r. (item_legal a d low legal, subst (λ (n : ℕ). AreItems n rest) (floor_given a d) r))

one_piece : (a : Account) (p : Piece) (rest : List FeedItem) → InTime p → a.greatest ≤ last_stamp
    → ((counted p a).greatest ≤ last_stamp) × (AreItems (floor (counted p a)) rest → AreItems (floor a) (item_from a (datagram_of p) ++ rest))
one_piece a Nothing rest timed low = (low, λ r. r)
one_piece a Unread rest timed low = (low, λ r. r)
one_piece a (Packet c) rest timed low = one_fate a (fate c) rest (fate_legal (found_in c.link c.front) c.stamp (found_item c.link c.front) timed) low

-- what a part tells, and what it counts
told : (limit : ℕ) (c : Course) (x : Parsed) (size : ℕ) (next : Course) (p : Piece) → step_of limit c x ≡ Takes size next p → IsTimed x → (next.account ≡ counted p c.account) × InTime p
told limit c Ends size next p e timed = absurd (clash e) where
  clash : Ended ≡ Takes size next p → ⊥
  clash h = cc
told limit c (Refused number) size next p e timed = absurd (clash e) where
  clash : Refuses number ≡ Takes size next p → ⊥
  clash h = cc
told limit c (Reads n s q) size next p e timed = go (is_too_much limit c.offset c.account.items n q) e
  where
    go : (b : Bool) → cond b (Refuses 7) (Takes n (record { standing = s; offset = c.offset + n; account = counted q c.account }) q) ≡ Takes size next p → (next.account ≡ counted p c.account) × InTime p
    go true h = absurd (clash h) where
      clash : Refuses 7 ≡ Takes size next p → ⊥
      clash k = cc
    go false h =
        let same : record { standing = s; offset = c.offset + n; account = counted q c.account } ≡ next = cc in
        let piece : q ≡ p = cc in
        (ap (λ (x : Course). x.account) (sym same) ∙ ap (λ (x : Piece). counted x c.account) piece, subst (λ (x : Piece). InTime x) piece timed)

part_told : (limit : ℕ) (begun : Bool) (c : Course) (p : Part) → IsPart limit begun c p → (p.next.account ≡ counted p.piece c.account) × InTime p.piece
part_told limit false c p is = told limit c (beginning c.standing p.bytes) (length p.bytes) p.next p.piece is.is (timed_beginning c.standing p.bytes)
part_told limit true c p is = told limit c (parsed c.standing p.bytes) (length p.bytes) p.next p.piece is.is (timed_further c.standing.form c.standing p.bytes)

legal_from : (limit : ℕ) (begun : Bool) (c : Course) (parts : List Part) → AreParts limit begun c parts → c.account.greatest ≤ last_stamp → AreItems (floor c.account) (items_from c.account (pieces_of parts))
legal_from limit begun c [] legal low = tt
legal_from limit begun c (p ∷ parts) legal low =
    let t = part_told limit begun c p legal.0 in
    let o = one_piece c.account p.piece (items_from (counted p.piece c.account) (pieces_of parts)) t.1 low in
    let behind = legal_from limit true p.next parts legal.1 (subst (λ (a : Account). a.greatest ≤ last_stamp) (sym t.0) o.0) in
    o.1 (subst (λ (a : Account). AreItems (floor a) (items_from a (pieces_of parts))) t.0 behind)

pub items_are_legal : ItemsAreLegal
items_are_legal limit parts legal = legal_from limit false no_course parts legal (omega arith)

-- The counts of an account add up.
use Rattle.std.proofs.Common.{◌≡◌, ◌≤◌, ◌<◌, ◌+◌, ◌-◌, ◌^◌, ◌&&◌, ℕ, Bool, true, false, cond, nat_lt, nat_le, List, [], ◌∷◌, length, get_or, sum, Option, None, Some, refl, ap, ◌∙◌, arith}
use Rattle.std.proofs.Math.Nat.{min-eq_left, min-le_left, min-le_right}
use Rattle.std.proofs.lemmas.Bool.{leb-true}
use Rattle.std.proofs.lemmas.List.{length-set}
use Rattle.std.proofs.lemmas.List.Sums.{get_or-le-sum_by, sum_by-set}
use Rattle.vdr_frame.specs.Outcomes.{IsItem, Outcome, Left, Cut, Whole}
use Rattle.vdr_frame.specs.Packets.{found_in}
use Rattle.vdr_frame.specs.declared.found.Cause.{Cause}
use Rattle.vdr_frame.specs.declared.found.Cause.TheVariants.{Link, Short, Protocol, Ipv6, Fragment, Malformed, Port}
use Rattle.vdr_frame.proofs.ItemLemmas.{found_item}
use Rattle.vdr_pcap.specs.Account.{Datagram, Fate, Given, LeftOut, account_from, counted, fate, fate_at, fate_of, more, more_at, no_account, row_of, with_fate}
use Rattle.vdr_pcap.specs.Packets.{Nothing, Packet, Piece, Unread}
use Rattle.vdr_pcap.specs.declared.account.Account.{Account}
use Rattle.vdr_import.specs.Laws.{CountsAddUp}

-- ---- rows

abbrev IsInRange : Fate → Type 0
IsInRange (LeftOut row) = row < 57
IsInRange (Given d) = d.group < 16

test_and : (x y : Bool) → (x && y) ≡ true → y ≡ true
test_and true y is = is
test_and false y is = let none : ⊥ = cc in absurd none

port_row : (port : ℕ) (b : Bool) → (nat_le 60_017 port && nat_le port 60_064) ≡ b → cond b (7 + (port - 60_017)) 6 < 57
port_row port true is = let most : port ≤ 60_064 = leb-true port 60_064 (test_and (nat_le 60_017 port) (nat_le port 60_064) is) in omega (arith, most)
port_row port false is = omega arith

row_few : (cause : Cause) → row_of cause < 57
row_few Link = omega arith
row_few Short = omega arith
row_few Protocol = omega arith
row_few Ipv6 = omega arith
row_few Fragment = omega arith
row_few Malformed = omega arith
row_few (Port port) = port_row port (nat_le 60_017 port && nat_le port 60_064) refl

at_in_range : (group : ℕ) (payload : List ℕ) (whole : Bool) (stamp : Option ℕ) → group < 16 → IsInRange (fate_at group payload whole stamp)
at_in_range group payload whole None few = omega arith
at_in_range group payload whole (Some utc) few = few

in_range : (o : Outcome) (stamp : Option ℕ) → IsItem o → IsInRange (fate_of o stamp)
in_range (Left cause) stamp found = row_few cause
in_range (Cut group) stamp found = at_in_range group [] false stamp found
in_range (Whole group payload) stamp found = at_in_range group payload true stamp found.0

-- ---- counts

abbrev most : ℕ
most = 2 ^ 64 - 1

-- a count that does not stand still
counts_on : (n : ℕ) → more n < most → (more n ≡ n + 1) × (n + 1 < most)
counts_on n less = go (nat_lt most (n + 1)) refl
  where
    go : (b : Bool) → nat_lt most (n + 1) ≡ b → (more n ≡ n + 1) × (n + 1 < most)
    go b is = grind (arith, less, min-le_left (n + 1) most, min-le_right (n + 1) most)

one_more : (counts : List ℕ) (k total : ℕ) → k < length counts → sum counts ≤ total → total < most → sum (more_at k counts) ≡ sum counts + 1
one_more counts k total there least less =
    let one : get_or counts k 0 ≤ sum counts = get_or-le-sum_by (λ x. x) counts k 0 there in
    let is : more (get_or counts k 0) ≡ get_or counts k 0 + 1 = min-eq_left (omega (arith, one, least, less)) in
    let changed = sum_by-set (λ x. x) counts k (more (get_or counts k 0)) 0 there in
    omega (arith, changed, is)

record AddsUp (a : Account) : Type 0 where
  whole : length a.whole ≡ 16
  cut : length a.cut ≡ 16
  left : length a.left ≡ 57
  adds : a.packets < most → sum a.whole + sum a.cut + sum a.left ≡ a.packets

-- one row more
left_adds : (row : ℕ) (a : Account) → row < 57 → AddsUp a → AddsUp (with_fate (LeftOut row) a)
left_adds row a few h = record {
  whole = h.whole;
  cut = h.cut;
  left = length-set a.left row (more (get_or a.left row 0)) ∙ h.left;
  adds = λ less.
      let on = counts_on a.packets less in
      let before = h.adds (omega (arith, on.1)) in
      let long = h.left in
      let one = one_more a.left row a.packets (omega (arith, long, few)) (omega (arith, before)) (omega (arith, on.1)) in
      omega (arith, one, before, on.0);
}

given_adds : (d : Datagram) (b : Bool) (a now : Account) → d.group < 16 → AddsUp a
    → now.whole ≡ cond b (more_at d.group a.whole) a.whole → now.cut ≡ cond b a.cut (more_at d.group a.cut) → now.left ≡ a.left → now.packets ≡ more a.packets → AddsUp now
given_adds d true a now few h w c l p = record {
  whole = ap (λ (xs : List ℕ). length xs) w ∙ length-set a.whole d.group (more (get_or a.whole d.group 0)) ∙ h.whole;
  cut = ap (λ (xs : List ℕ). length xs) c ∙ h.cut;
  left = ap (λ (xs : List ℕ). length xs) l ∙ h.left;
  adds = λ less.
      let on = counts_on a.packets (omega (arith, less, p)) in
      let before = h.adds (omega (arith, on.1)) in
      let long = h.whole in
      let one = one_more a.whole d.group a.packets (omega (arith, long, few)) (omega (arith, before)) (omega (arith, on.1)) in
      let sums = ap sum w in let cuts = ap sum c in let lefts = ap sum l in
      omega (arith, one, before, on.0, sums, cuts, lefts, p);
}
given_adds d false a now few h w c l p = record {
  whole = ap (λ (xs : List ℕ). length xs) w ∙ h.whole;
  cut = ap (λ (xs : List ℕ). length xs) c ∙ length-set a.cut d.group (more (get_or a.cut d.group 0)) ∙ h.cut;
  left = ap (λ (xs : List ℕ). length xs) l ∙ h.left;
  adds = λ less.
      let on = counts_on a.packets (omega (arith, less, p)) in
      let before = h.adds (omega (arith, on.1)) in
      let long = h.cut in
      let one = one_more a.cut d.group a.packets (omega (arith, long, few)) (omega (arith, before)) (omega (arith, on.1)) in
      let sums = ap sum w in let cuts = ap sum c in let lefts = ap sum l in
      omega (arith, one, before, on.0, sums, cuts, lefts, p);
}

fate_adds : (f : Fate) (a : Account) → IsInRange f → AddsUp a → AddsUp (with_fate f a)
fate_adds (LeftOut row) a few h = left_adds row a few h
fate_adds (Given d) a few h = given_adds d d.is_whole a (with_fate (Given d) a) few h refl refl refl refl

piece_adds : (p : Piece) (a : Account) → AddsUp a → AddsUp (counted p a)
piece_adds Nothing a h = h
piece_adds Unread a h = left_adds 56 a (omega arith) h
piece_adds (Packet c) a h = fate_adds (fate c) a (in_range (found_in c.link c.front) c.stamp (found_item c.link c.front)) h

all_add : (a : Account) (pieces : List Piece) → AddsUp a → AddsUp (account_from a pieces)
all_add a [] h = h
all_add a (p ∷ pieces) h = all_add (counted p a) pieces (piece_adds p a h)

pub counts_add_up : CountsAddUp
counts_add_up pieces less = (all_add no_account pieces (record { whole = refl; cut = refl; left = refl; adds = λ few. refl })).adds less

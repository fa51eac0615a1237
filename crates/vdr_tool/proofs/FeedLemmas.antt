-- A feed is recorded up to one place: its end, what is refused there, or an item of a group that is not configured.
use Rattle.std.proofs.Common.{◌≡◌, ◌≤◌, ◌<◌, ◌+◌, ◌⊎◌, inl, inr, ℕ, suc, List, [], ◌∷◌, ◌++◌, length, Option, None, Some, refl, ap, ◌∙◌, sym, subst}
use Rattle.std.proofs.Common.{arith, append_assoc, append-nil, length-append}
use Rattle.std.specs.List.{flat_map}
use Rattle.std.proofs.lemmas.Grind.{flat_map-append}
use Rattle.std.proofs.lemmas.List.Elements.{All-head, All-tail}
use Rattle.vdr_terms.specs.Records.{FeedItem}
use Rattle.vdr_terms.specs.declared.rate.Rate.{Rate}
use Rattle.vdr_feed.specs.Feed.{feed, feed_header, spelling, AreItems, IsItem, received_after, fault_of, Reaches, IsFeed, IsRefusedAfter, longest_feed}
use Rattle.vdr_feed.proofs.Spelled.{same_item, no_fault}
use Rattle.vdr_feed.proofs.Unique.{behind}
use Rattle.vdr_replay.specs.Feeding.{AreConfigured, HasRate, RefusesGroup, RefusesNext}

-- Here stands an item of a group that is not configured.
record IsStrange (rates : List (Option Rate)) (floor : ℕ) (rest : List ℕ) : Type 0 where
  item : FeedItem
  more : List ℕ
  legal : IsItem floor item
  is : rest ≡ spelling item ++ more
  strange : HasRate rates item.group → ⊥

-- Here stands no item of a configured group.
abbrev Ends : (rates : List (Option Rate)) (limit count floor : ℕ) → List ℕ → Type 0
Ends rates limit count floor rest = (rest ≡ []) ⊎ (((number : ℕ) × (fault_of limit count floor rest ≡ Some number)) ⊎ IsStrange rates floor rest)

nothing : (i : FeedItem) (x : List ℕ) → [] ≡ spelling i ++ x → ⊥
nothing i x e = cc

faultless : (limit count floor number : ℕ) (i : FeedItem) (rest x : List ℕ) → count < limit → IsItem floor i → rest ≡ spelling i ++ x
    → fault_of limit count floor rest ≡ Some number → ⊥
faultless limit count floor number i rest x room legal e f =
    let clash : None ≡ Some number = sym (no_fault limit count floor i x room legal)
    ∙ (ap (λ (bytes : List ℕ). fault_of limit count floor bytes) (sym e) ∙ f) in
    let none : ⊥ = cc in none

no_item : (rates : List (Option Rate)) (limit count floor : ℕ) (rest : List ℕ) (i : FeedItem) (x : List ℕ) → IsItem floor i → HasRate rates i.group
    → count < limit
    → Ends rates limit count floor rest → rest ≡ spelling i ++ x → ⊥
no_item rates limit count floor rest i x legal known room (inl none) e = nothing i x (sym none ∙ e)
no_item rates limit count floor rest i x legal known room (inr (inl f)) e = faultless limit count floor f.0 i rest x room legal e f.1
no_item rates limit count floor rest i x legal known room (inr (inr s)) e =
    let same = same_item floor floor i s.item x s.more legal s.legal (sym e ∙ s.is) in
    s.strange (subst (λ (j : FeedItem). HasRate rates j.group) same.0 known)

unique : (rates : List (Option Rate)) (limit count floor : ℕ) (items others : List FeedItem) (rest more : List ℕ) → AreItems floor items → AreItems floor others
    → AreConfigured rates items → AreConfigured rates others → count + length items ≤ limit → count + length others ≤ limit
    → Ends rates limit (count + length items) (received_after floor items) rest → Ends rates limit (count + length others) (received_after floor others) more
    → flat_map spelling items ++ rest ≡ flat_map spelling others ++ more → (items ≡ others) × (rest ≡ more)
unique rates limit count floor [] [] rest more a b k h l m p q e = (refl, e)
unique rates limit count floor [] (j ∷ js) rest more a b k h l m p q e =
    absurd (no_item rates limit count floor rest j (flat_map spelling js ++ more) b.0 (All-head (λ (i : FeedItem). HasRate rates i.group) j js h)
    (omega (arith, m))
    (subst (λ (n : ℕ). Ends rates limit n floor rest) (omega arith) p) (e ∙ append_assoc (spelling j) (flat_map spelling js) more))
unique rates limit count floor (i ∷ is) [] rest more a b k h l m p q e =
    absurd (no_item rates limit count floor more i (flat_map spelling is ++ rest) a.0 (All-head (λ (i : FeedItem). HasRate rates i.group) i is k)
    (omega (arith, l))
    (subst (λ (n : ℕ). Ends rates limit n floor more) (omega arith) q) (sym e ∙ append_assoc (spelling i) (flat_map spelling is) rest))
unique rates limit count floor (i ∷ is) (j ∷ js) rest more a b k h l m p q e =
    let here = same_item floor floor i j (flat_map spelling is ++ rest) (flat_map spelling js ++ more) a.0 b.0
    (sym (append_assoc (spelling i) (flat_map spelling is) rest) ∙ (e ∙ append_assoc (spelling j) (flat_map spelling js) more)) in
    let at : j.item.received ≡ i.item.received = ap (λ (x : FeedItem). x.item.received) (sym here.0) in
    let later = unique rates limit (suc count) i.item.received is js rest more a.1 (subst (λ (f : ℕ). AreItems f js) at b.1)
    (All-tail (λ (i : FeedItem). HasRate rates i.group) i is k) (All-tail (λ (i : FeedItem). HasRate rates i.group) j js h) (omega (arith, l))
    (omega (arith, m))
    (subst (λ (n : ℕ). Ends rates limit n (received_after i.item.received is) rest) (omega arith) p)
    (subst (λ (n : ℕ). Ends rates limit n (received_after i.item.received js) more) (omega arith)
    (subst (λ (f : ℕ). Ends rates limit (count + length (j ∷ js)) (received_after f js) more) at q))
    here.1 in
    ((λ k. here.0 k ∷ later.0 k), later.1)

-- How far a feed is recorded, and what stands there.
record Stands (rates : List (Option Rate)) (limit : ℕ) (bytes : List ℕ) (items : List FeedItem) : Type 0 where
  rest : List ℕ
  front : Reaches limit bytes items rest
  ends : Ends rates limit (length items) (received_after 0 items) rest

one_stand : (rates : List (Option Rate)) (limit : ℕ) (bytes : List ℕ) (items others : List FeedItem) → AreConfigured rates items → AreConfigured rates others
    → (s : Stands rates limit bytes items) (t : Stands rates limit bytes others) → (items ≡ others) × (s.rest ≡ t.rest)
one_stand rates limit bytes items others known also s t =
    let few = s.front.few in let short = t.front.few in
    unique rates limit 0 0 items others s.rest t.rest s.front.legal t.front.legal known also (omega (arith, few)) (omega (arith, short))
    (subst (λ (n : ℕ). Ends rates limit n (received_after 0 items) s.rest) (omega arith) s.ends)
    (subst (λ (n : ℕ). Ends rates limit n (received_after 0 others) t.rest) (omega arith) t.ends)
    (sym (behind limit bytes items s.rest s.front) ∙ behind limit bytes others t.rest t.front)

-- An item behind others.
items_split : (floor : ℕ) (xs : List FeedItem) (y : FeedItem) → AreItems floor (xs ++ y ∷ []) → AreItems floor xs × IsItem (received_after floor xs) y
items_split floor [] y h = (tt, h.0)
items_split floor (x ∷ xs) y h = let later = items_split x.item.received xs y h.1 in ((h.0, later.0), later.1)

feed_split : (xs : List FeedItem) (y : FeedItem) (rest : List ℕ) → feed (xs ++ y ∷ []) ++ rest ≡ feed xs ++ (spelling y ++ rest)
feed_split xs y rest =
    ap (λ (b : List ℕ). (feed_header ++ b) ++ rest) (flat_map-append spelling xs (y ∷ [])
    ∙ ap (λ (b : List ℕ). flat_map spelling xs ++ b) (append-nil (spelling y)))
    ∙ ap (λ (b : List ℕ). b ++ rest) (sym (append_assoc feed_header (flat_map spelling xs) (spelling y)))
    ∙ append_assoc (feed xs) (spelling y) rest

stands_at_group : (rates : List (Option Rate)) (bytes : List ℕ) (number offset : ℕ) (items : List FeedItem) → RefusesGroup rates bytes number offset items
    → Stands rates longest_feed bytes items
stands_at_group rates bytes number offset items r =
    let parts = items_split 0 items r.next r.legal.legal in
    let few = r.legal.few in
    let count = length-append items (r.next ∷ []) in
    record {
      rest = spelling r.next ++ r.rest;
      front = record { spelled = r.legal.spelled ∙ feed_split items r.next r.rest; legal = parts.0; few = omega (arith, few, count) };
      ends = inr (inr (record { item = r.next; more = r.rest; legal = parts.1; is = refl; strange = r.strange }));
    }

stands_at_fault : (rates : List (Option Rate)) (bytes : List ℕ) (number offset : ℕ) (items : List FeedItem) (rest : List ℕ)
    → IsRefusedAfter longest_feed bytes number offset items rest
    → Stands rates longest_feed bytes items
stands_at_fault rates bytes number offset items rest r = record { rest = rest; front = r.front; ends = inr (inl (number, r.fault)) }

stands_at_end : (rates : List (Option Rate)) (bytes : List ℕ) (items : List FeedItem) → IsFeed longest_feed bytes items → Stands rates longest_feed bytes items
stands_at_end rates bytes items r = record { rest = []; front = r; ends = inl refl }

-- A feed whose groups are all configured is not refused where it is recorded.
pub not_refused : (rates : List (Option Rate)) (bytes : List ℕ) (number offset : ℕ) (items others : List FeedItem) → AreConfigured rates items
    → AreConfigured rates others
    → IsFeed longest_feed bytes items → RefusesNext rates bytes number offset others → ⊥
unfolding stands_at_fault stands_at_end stands_at_group
not_refused rates bytes number offset items others known also whole (inl fault) =
    let r = fault.1 in
    let same = one_stand rates longest_feed bytes items others known also (stands_at_end rates bytes items whole)
    (stands_at_fault rates bytes number offset others fault.0 r) in
    let clash : None ≡ Some number = ap (λ (xs : List ℕ). fault_of longest_feed (length others) (received_after 0 others) xs) same.1 ∙ r.fault in
    let none : ⊥ = cc in none
not_refused rates bytes number offset items others known also whole (inr group) =
    let same = one_stand rates longest_feed bytes items others known also (stands_at_end rates bytes items whole)
    (stands_at_group rates bytes number offset others group) in
    nothing group.next group.rest same.1

-- No fault stands where an item does.
no_both : (rates : List (Option Rate)) (bytes : List ℕ) (number offset other at : ℕ) (items others : List FeedItem) (rest : List ℕ) → AreConfigured rates items
    → AreConfigured rates others
    → IsRefusedAfter longest_feed bytes number offset items rest → RefusesGroup rates bytes other at others → ⊥
unfolding stands_at_fault stands_at_group
no_both rates bytes number offset other at items others rest known also r group =
    let same = one_stand rates longest_feed bytes items others known also (stands_at_fault rates bytes number offset items rest r)
    (stands_at_group rates bytes other at others group) in
    let parts = items_split 0 others group.next group.legal.legal in
    let few = group.legal.few in
    let count = length-append others (group.next ∷ []) in
    let fault : fault_of longest_feed (length others) (received_after 0 others) rest ≡ Some number =
    subst (λ (xs : List FeedItem). fault_of longest_feed (length xs) (received_after 0 xs) rest ≡ Some number) same.0 r.fault in
    faultless longest_feed (length others) (received_after 0 others) number group.next rest group.rest (omega (arith, few, count)) parts.1 same.1 fault

-- Where it is refused, it is so by one number, at one offset.
pub one_refusal : (rates : List (Option Rate)) (bytes : List ℕ) (number offset other at : ℕ) (items others : List FeedItem) → AreConfigured rates items
    → AreConfigured rates others
    → RefusesNext rates bytes number offset items → RefusesNext rates bytes other at others → (number ≡ other) × (offset ≡ at)
unfolding stands_at_fault
one_refusal rates bytes number offset other at items others known also (inl first) (inl second) =
    let r = first.1 in let t = second.1 in
    let same = one_stand rates longest_feed bytes items others known also (stands_at_fault rates bytes number offset items first.0 r)
    (stands_at_fault rates bytes other at others second.0 t) in
    let faults : Some number ≡ Some other = sym r.fault ∙ ((λ i. fault_of longest_feed (length (same.0 i)) (received_after 0 (same.0 i)) (same.1 i)) ∙ t.fault)
    in
    let numbers : number ≡ other = cc in
    (numbers, r.offset_is ∙ (ap (λ (xs : List FeedItem). length (feed xs)) same.0 ∙ sym t.offset_is))
one_refusal rates bytes number offset other at items others known also (inl first) (inr second) =
    absurd (no_both rates bytes number offset other at items others first.0 known also first.1 second)
one_refusal rates bytes number offset other at items others known also (inr first) (inl second) =
    absurd (no_both rates bytes other at number offset others items second.0 also known second.1 first)
one_refusal rates bytes number offset other at items others known also (inr first) (inr second) =
    let same = one_stand rates longest_feed bytes items others known also (stands_at_group rates bytes number offset items first)
    (stands_at_group rates bytes other at others second) in
    (first.number_is ∙ sym second.number_is, first.offset_is ∙ (ap (λ (xs : List FeedItem). length (feed xs)) same.0 ∙ sym second.offset_is))

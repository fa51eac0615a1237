-- The newest segments of a regular medium, as many as a medium needs slots, hold its window: one of them might go, and what stands
-- before it is older.
use Rattle.std.proofs.Common.{◌≡◌, inl, inr, ⊎_elim, ◌+◌, ◌<◌, ◌≤◌, ℕ, suc, List, [], ◌∷◌, ◌++◌, length, drop, sum_by, All, Contains, Option, None, Some, refl, sym, ◌∙◌, ap, subst, arith, append_assoc, length-append}
use Rattle.std.specs.Prelude.{IfSome}
use Rattle.std.proofs.lemmas.Bool.{cases_lt}
use Rattle.std.proofs.lemmas.Grind.{flat_map-append}
use Rattle.std.proofs.lemmas.List.{length-map, map-append}
use Rattle.std.proofs.lemmas.List.Elements.{All-cons, All-contains, All-head, All-nil, All-tail, Contains-append_cases, Contains-append_left, Contains-append_right}
use Rattle.std.proofs.lemmas.List.Sums.{sum_by-append}
use Rattle.vdr_terms.specs.Needs.{Sizes, cost, needed_slots, usable}
use Rattle.vdr_terms.specs.Records.{Record, last, last_after, second}
use Rattle.vdr_terms.specs.Order.{AreInOrder}
use Rattle.vdr_terms.specs.Sizes.{records_size}
use Rattle.vdr_terms.specs.Windows.{window}
use Rattle.vdr_entry.specs.declared.summary.Summary.{Summary}
use Rattle.vdr_durability.specs.Layout.{Batches, batches_size, batches_size_at, records_in, segment_records}
use Rattle.vdr_durability.specs.Regular.{IsRegular}
use Rattle.vdr_durability.specs.Retention.{Holds}
use Rattle.vdr_durability.specs.Victims.{ArePinsOf, HasVictim}
use Rattle.vdr_durability.proofs.Lists.{all_from, contains_cases, contains_flat, contains_here, last_behind, none_contained}
use Rattle.vdr_durability.proofs.Retained.{in_the_window, outside_by_test, recent, second_rises}
use Rattle.vdr_durability.proofs.Victims.{medium_has_victim}
use Rattle.vdr_directory.specs.Sequence.{Placed, all_records, batches_of, segments_in}
use Rattle.vdr_directory.specs.Leaving.{IsExact, IsExactlySummarized}
use Rattle.vdr_ring.specs.Regularity.{AreLaidOut, AreRegular}
use Rattle.vdr_remake.specs.Copies.{moved, moved_from}
use Rattle.vdr_remake.specs.Remade.{AreNewest}

-- The last of the segments are the last of what is kept
record Cut (left kept older : List Batches) (newest : Batches) : Type 0 where
  pub before : List Batches
  pub split : kept ≡ before ++ newest ∷ []
  pub older_is : older ≡ left ++ before

cut : (left kept older : List Batches) (newest : Batches) → older ++ newest ∷ [] ≡ left ++ kept → 1 ≤ length kept → Cut left kept older newest
cut [] kept older newest e some = record { before = older; split = sym e; older_is = refl }
cut (l ∷ left) kept [] newest e some =
    let long : 1 ≡ suc (length (left ++ kept)) = ap length e in
    absurd (omega (arith, long, length-append left kept, some))
cut (l ∷ left) kept (o ∷ older) newest e some =
    let same : o ≡ l = cc in
    let rest : Cut left kept older newest = cut left kept older newest (ap (λ (xs : List Batches). drop 1 xs) e) some in
    record { before = rest.before; split = rest.split; older_is = λ i. same i ∷ rest.older_is i }

order_behind : (xs ys : List Record) → AreInOrder (xs ++ ys) → AreInOrder ys
order_behind [] ys h = h
order_behind (x ∷ xs) ys h = order_behind xs ys h.1

no_later : (xs ys : List Record) (r s : Record) → AreInOrder (xs ++ ys) → Contains xs r → Contains ys s → r.tick ≤ s.tick
no_later [] ys r s h a b = absurd (none_contained r a)
no_later (x ∷ xs) ys r s h a b =
    ⊎_elim
    (λ (same : x ≡ r). subst (λ (z : Record). z.tick ≤ s.tick) same (All-contains (λ (later : Record). (x.place < later.place) × (x.tick ≤ later.tick)) (xs ++ ys) s h.0 (Contains-append_right xs ys s b)).1)
    (λ (there : Contains xs r). no_later xs ys r s h.1 there b)
    (contains_cases x xs r a)

-- regular segments without the oldest of them
regular_behind : (c u b : ℕ) (left before : List Batches) (newest : Batches) → IsRegular c u b (left ++ before) newest → IsRegular c u b before newest
regular_behind c u b left before newest h = record {
  order = order_behind (records_in left) (records_in (before ++ newest ∷ [])) (subst AreInOrder (ap records_in joined ∙ flat_map-append segment_records left (before ++ newest ∷ [])) h.order);
  filled = all_from (λ segment. u < batches_size segment) before (λ s m. All-contains (λ segment. u < batches_size segment) (left ++ before) s h.filled (Contains-append_right left before s m));
  batches = all_from (λ segment. All (λ x. (0 < length x) × (records_size x ≤ b)) segment) (before ++ newest ∷ [])
      (λ s m. All-contains (λ segment. All (λ x. (0 < length x) × (records_size x ≤ b)) segment) ((left ++ before) ++ newest ∷ []) s h.batches
      (subst (λ (xs : List Batches). Contains xs s) (sym joined) (Contains-append_right left (before ++ newest ∷ []) s m)));
  paced = λ s.
      let all = h.paced s in
      let same : sum_by (batches_size_at s) ((left ++ before) ++ newest ∷ []) ≡ sum_by (batches_size_at s) (left ++ (before ++ newest ∷ [])) = ap (λ (xs : List Batches). sum_by (batches_size_at s) xs) joined in
      omega (arith, all, same, sum_by-append (batches_size_at s) left (before ++ newest ∷ []));
}
  where
    joined : (left ++ before) ++ newest ∷ [] ≡ left ++ (before ++ newest ∷ [])
    joined = append_assoc left before (newest ∷ [])

some_record : (v : Batches) (b : ℕ) → 0 < batches_size v → All (λ x. (0 < length x) × (records_size x ≤ b)) v → (s : Record) × Contains (segment_records v) s
some_record [] b some all = absurd (omega (arith, some))
some_record (x ∷ xs) b some all = go x (All-head (λ (y : List Record). (0 < length y) × (records_size y ≤ b)) x xs all).0 refl
  where
    go : (y : List Record) → 0 < length y → y ≡ x → (s : Record) × Contains (segment_records (x ∷ xs)) s
    go [] none same = absurd (omega (arith, none))
    go (s ∷ ss) more same = (s, contains_flat (λ (y : List Record). y) (x ∷ xs) x s (contains_here x xs) (subst (λ (z : List Record). Contains z s) same (contains_here s ss)))

last_of : (xs : List Record) (x : Record) → Contains xs x → (n : Record) × (last xs ≡ Some n)
last_of [] x h = absurd (none_contained x h)
last_of (y ∷ ys) x h = (last_after y ys, refl)

same_holds : (seconds : ℕ) (xs : List Record) → Holds seconds xs xs
same_holds seconds xs = record {
  own = all_from (Contains xs) xs (λ r k. k);
  newest = refl;
  recent = all_from (Contains xs) (window seconds xs) (λ r w. (recent seconds xs r w).there);
}

-- what stands before a record outside the window is outside it
holds_behind : (seconds : ℕ) (xs ys : List Record) (s n : Record) → last ys ≡ Some n → second s.tick + seconds ≤ second n.tick → ((r : Record) → Contains xs r → r.tick ≤ s.tick) → Holds seconds (xs ++ ys) ys
holds_behind seconds xs ys s n ends far earlier = record {
  own = all_from (Contains (xs ++ ys)) ys (λ r k. Contains-append_right xs ys r k);
  newest = same_last ys ends;
  recent = all_from (Contains ys) (window seconds (xs ++ ys)) (λ r w. ⊎_elim
      (λ (l : Contains xs r).
      let rises = second_rises r.tick s.tick (earlier r l) in
      absurd (outside_by_test seconds (xs ++ ys) n r (sym (same_last ys ends) ∙ ends) (omega (arith, rises, far)) w))
      (λ (k : Contains ys r). k)
      (Contains-append_cases xs ys r (recent seconds (xs ++ ys) r w).there));
}
  where
    same_last : (zs : List Record) → last zs ≡ Some n → last zs ≡ last (xs ++ zs)
    same_last [] e = let none : ⊥ = cc in absurd none
    same_last (z ∷ zs) e = sym (last_behind xs z zs)

no_pins : (sizes : Sizes) (m : ℕ) (held : List Record) → ArePinsOf sizes m held []
no_pins sizes m held = record { few = omega arith; short = λ pin here. absurd (none_contained pin here) }

segments_hold : (sizes : Sizes) (m : ℕ) (left before : List Batches) (newest : Batches) → IsRegular (cost sizes) (usable sizes) sizes.batch (left ++ before) newest → 0 < usable sizes
    → needed_slots sizes m ≤ length (before ++ newest ∷ []) → Holds (sizes.seconds m) (records_in left ++ records_in (before ++ newest ∷ [])) (records_in (before ++ newest ∷ []))
segments_hold sizes m left before newest regular some enough = holds_behind (sizes.seconds m) (records_in left) held s n.0 n.1 far (λ r l. no_later (records_in left) held r s order l there)
  where
    held : List Record
    held = records_in (before ++ newest ∷ [])

    own : IsRegular (cost sizes) (usable sizes) sizes.batch before newest
    own = regular_behind (cost sizes) (usable sizes) sizes.batch left before newest regular

    v : HasVictim (sizes.seconds m) [] before newest
    v = medium_has_victim sizes m before newest [] own some (no_pins sizes m held) enough

    here : Contains before v.victim
    here = subst (λ (xs : List Batches). Contains xs v.victim) (sym v.split) (Contains-append_right v.before (v.victim ∷ v.after) v.victim (contains_here v.victim v.after))

    filled : usable sizes < batches_size v.victim
    filled = All-contains (λ segment. usable sizes < batches_size segment) before v.victim own.filled here

    one : (s : Record) × Contains (segment_records v.victim) s
    one = some_record v.victim sizes.batch (omega (arith, filled, some)) (All-contains (λ segment. All (λ x. (0 < length x) × (records_size x ≤ sizes.batch)) segment) (before ++ newest ∷ []) v.victim own.batches (Contains-append_left before (newest ∷ []) v.victim here))

    s : Record
    s = one.0

    there : Contains held s
    there = contains_flat segment_records (before ++ newest ∷ []) v.victim s (Contains-append_left before (newest ∷ []) v.victim here) one.1

    n : (n : Record) × (last held ≡ Some n)
    n = last_of held s there

    outside : Contains (window (sizes.seconds m) held) s → ⊥
    outside = All-contains (λ (r : Record). Contains (window (sizes.seconds m) held) r → ⊥) (segment_records v.victim) s v.oldest.may_go.old one.1

    far : second s.tick + sizes.seconds m ≤ second n.0.tick
    far = ⊎_elim
        (λ (near : second n.0.tick < second s.tick + sizes.seconds m). absurd (outside (in_the_window (sizes.seconds m) held s (record { newest = n.0; ends = n.1; there = there; close = near }))))
        (λ (le : second s.tick + sizes.seconds m ≤ second n.0.tick). le)
        (cases_lt (second n.0.tick) (second s.tick + sizes.seconds m))

    order : AreInOrder (records_in left ++ held)
    order = subst AreInOrder (ap records_in (append_assoc left before (newest ∷ [])) ∙ flat_map-append segment_records left (before ++ newest ∷ [])) regular.order

all_behind : (left kept : List Placed) → all_records (left ++ kept) ≡ all_records left ++ all_records kept
all_behind left kept = ap records_in (map-append batches_of left kept) ∙ flat_map-append segment_records (segments_in left) (segments_in kept)

pub newest_hold : (sizes : Sizes) (m count : ℕ) (placed kept : List Placed) → AreLaidOut (cost sizes) (usable sizes) sizes.batch placed → 0 < usable sizes
    → needed_slots sizes m ≤ count → AreNewest count placed kept → Holds (sizes.seconds m) (all_records placed) (all_records kept)
newest_hold sizes m count placed kept laid some enough newest = elim newest.most [
  | inl none ↦
      let same : placed ≡ kept = newest.split ∙ ap (λ (xs : List Placed). xs ++ kept) none in
      subst (λ (xs : List Placed). Holds (sizes.seconds m) (all_records xs) (all_records kept)) (sym same) (same_holds (sizes.seconds m) (all_records kept))
  | inr full ↦
      subst (λ (xs : List Record). Holds (sizes.seconds m) xs (all_records kept)) (sym (ap all_records newest.split ∙ all_behind newest.left kept)) (elim laid [
        | inl nothing ↦
            let long : 0 ≡ length (newest.left ++ kept) = ap (λ (xs : List Placed). length xs) (sym nothing ∙ newest.split) in
            absurd (omega (arith, long, length-append newest.left kept, full, enough))
        | inr l ↦ whole full l.0 l.1 (sym l.2 ∙ ap segments_in newest.split ∙ map-append batches_of newest.left kept) l.3
      ])
]
  where
    whole : length kept ≡ count → (older : List Batches) (last_one : Batches) → older ++ last_one ∷ [] ≡ segments_in newest.left ++ segments_in kept → IsRegular (cost sizes) (usable sizes) sizes.batch older last_one
        → Holds (sizes.seconds m) (all_records newest.left ++ all_records kept) (all_records kept)
    whole full older last_one e regular =
        let size : length (segments_in kept) ≡ count = length-map kept batches_of ∙ full in
        let k : Cut (segments_in newest.left) (segments_in kept) older last_one = cut (segments_in newest.left) (segments_in kept) older last_one e (omega (arith, size, enough)) in
        subst (λ (xs : List Batches). Holds (sizes.seconds m) (all_records newest.left ++ records_in xs) (records_in xs)) (sym k.split)
        (segments_hold sizes m (segments_in newest.left) k.before last_one
        (subst (λ (xs : List Batches). IsRegular (cost sizes) (usable sizes) sizes.batch xs last_one) k.older_is regular) some
        (omega (arith, size, enough, ap (λ (xs : List Batches). length xs) k.split)))

-- They are regular where they stand

segments_moved : (n : ℕ) (ps : List Placed) → segments_in (moved_from n ps) ≡ segments_in ps
segments_moved n [] = refl
segments_moved n (p ∷ ps) = ap (λ (xs : List Batches). batches_of p ∷ xs) (segments_moved (suc n) ps)

exact_moved : (n : ℕ) (ps : List Placed) → All IsExactlySummarized ps → All IsExactlySummarized (moved_from n ps)
exact_moved n [] h = All-nil IsExactlySummarized
exact_moved n (p ∷ ps) h =
    All-cons IsExactlySummarized (record { slot = n; segment = p.segment }) (moved_from (suc n) ps) (go p.segment.header.summary (All-head IsExactlySummarized p ps h)) (exact_moved (suc n) ps (All-tail IsExactlySummarized p ps h))
  where
    go : (o : Option Summary) → IfSome o (IsExact p) → IfSome o (IsExact (record { slot = n; segment = p.segment }))
    go None e = tt
    go (Some summary) e = record { count = e.count; summary = e.summary }

laid_behind : (c u b : ℕ) (left kept : List Placed) → AreLaidOut c u b (left ++ kept) → AreLaidOut c u b (moved kept)
laid_behind c u b left [] laid = inl refl
laid_behind c u b left (p ∷ ps) laid = elim laid [
  | inl nothing ↦
      let long : 0 ≡ length (left ++ p ∷ ps) = ap (λ (xs : List Placed). length xs) (sym nothing) in
      absurd (omega (arith, long, length-append left (p ∷ ps)))
  | inr l ↦
      let k : Cut (segments_in left) (segments_in (p ∷ ps)) l.0 l.1 = cut (segments_in left) (segments_in (p ∷ ps)) l.0 l.1 (sym l.2 ∙ map-append batches_of left (p ∷ ps)) (omega (arith, length-map (p ∷ ps) batches_of)) in
      inr (
        k.before,
        l.1,
        segments_moved 0 (p ∷ ps) ∙ k.split,
        regular_behind c u b (segments_in left) k.before l.1 (subst (λ (xs : List Batches). IsRegular c u b xs l.1) k.older_is l.3),
      )
]

pub newest_regular : (c u b count : ℕ) (placed kept : List Placed) → AreRegular c u b placed → AreNewest count placed kept → AreRegular c u b (moved kept)
newest_regular c u b count placed kept regular newest = record {
  layout = laid_behind c u b newest.left kept (subst (AreLaidOut c u b) newest.split regular.layout);
  exact = exact_moved 0 kept (all_from IsExactlySummarized kept (λ p m. All-contains IsExactlySummarized placed p regular.exact
      (subst (λ (xs : List Placed). Contains xs p) (sym newest.split) (Contains-append_right newest.left kept p m))));
}

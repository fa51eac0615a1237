-- The records of a whole medium: they are in order, and its last one tells the place of the next.
use Rattle.std.proofs.Common.{◌≡◌, ◌≢◌, ◌⊎◌, ◌<◌, ◌≤◌, ◌+◌, ℕ, suc, List, [], ◌∷◌, ◌++◌, length, Contains, Option, Some, None, inl, inr, ⊎_elim, refl, sym, ap, ◌∙◌, arith, append-nil}
use Rattle.std.proofs.lemmas.List.Elements.{Contains-append_cases}
use Rattle.vdr_terms.specs.Records.{Record, last_after, last}
use Rattle.vdr_terms.specs.Order.{RunOn, NeverFalls, AreInOrder as RecordsAreInOrder}
use Rattle.vdr_durability.proofs.Lists.{none_contained, ticks_from}
use Rattle.vdr_durability.proofs.Ordered.{places_run, run_on_in_order, append_in_order as join_in_order}
use Rattle.vdr_directory.specs.Sequence.{Placed, first_of, records_of, all_records}
use Rattle.vdr_directory.specs.Order.{next_place, HasNone, Follows, MayPrecede, AreInPlace, AreInOrder}
use Rattle.vdr_directory.specs.Growing.{next_of, tick_of}
use Rattle.vdr_directory.proofs.Runs.{last_behind_some, after_last, ticks_to_last, ticks_on, first_to_last}
use Rattle.vdr_directory.proofs.Ordering.{has_records}

-- All records are in order

to_last : (from : ℕ) (rs : List Record) → rs ≢ [] → NeverFalls from rs → from ≤ tick_of (last rs)
to_last from [] some h = absurd (some refl)
to_last from (r ∷ rs) some h = let a = h.0 in let b = first_to_last r rs h.1 in omega (arith, a, b)

-- the records behind a segment: none before its next place, and none earlier than its last
later : (q : Placed) (ps : List Placed) (r : Record) → AreInPlace (Some q) ps → Contains (all_records ps) r → (next_place q ≤ r.place) × (tick_of (last (records_of q)) ≤ r.tick)
later q [] r h m = absurd (none_contained r m)
later q (p ∷ ps) r h m =
    ⊎_elim
    (λ (k : Contains (records_of p) r).
    let a = (places_run (first_of p) (records_of p) r h.0.runs_on.places k).0 in
    let b = h.0.follows.place in
    let c : (next_place q ≤ r.place) × (tick_of (last (records_of q)) ≤ r.tick) = (
      omega (arith, a, b),
      ticks_from (tick_of (last (records_of q))) (records_of p) r (ticks_on (records_of q) (records_of p) h.0.runs_on.ticks h.0.follows.ticks) k,
    ) in
    c)
    (λ (k : Contains (all_records ps) r).
    let d = later p ps r h.1 k in
    let a = d.0 in
    let b = h.0.follows.place in
    let e = d.1 in
    let f : tick_of (last (records_of q)) ≤ tick_of (last (records_of p)) =
    to_last (tick_of (last (records_of q))) (records_of p) (some ps h.0.precedes k) (ticks_on (records_of q) (records_of p) h.0.runs_on.ticks h.0.follows.ticks) in
    let c : (next_place q ≤ r.place) × (tick_of (last (records_of q)) ≤ r.tick) = (omega (arith, a, b), omega (arith, e, f)) in
    c)
    (Contains-append_cases (records_of p) (all_records ps) r m)
  where
    some : (ps : List Placed) → MayPrecede p ps → Contains (all_records ps) r → records_of p ≢ []
    some [] h k = absurd (none_contained r k)
    some (x ∷ xs) h k = has_records p x xs h

records_behind : (o : Option Placed) (ps : List Placed) → AreInPlace o ps → RecordsAreInOrder (all_records ps)
records_behind o [] h = tt
records_behind o (p ∷ ps) h =
    join_in_order (records_of p) (all_records ps)
    (run_on_in_order (first_of p) 0 (records_of p) h.0.runs_on.places h.0.runs_on.ticks)
    (records_behind (Some p) ps h.1)
    (λ x y m n.
    let k = later p ps y h.1 n in
    let a = (places_run (first_of p) (records_of p) x h.0.runs_on.places m).1 in
    let b = k.0 in
    let c = ticks_to_last 0 (records_of p) x h.0.runs_on.ticks m in
    let d = k.1 in
    let e : (x.place < y.place) × (x.tick ≤ y.tick) = (omega (arith, a, b), omega (arith, c, d)) in
    e)

-- Over a whole medium places rise and ticks never fall.
pub in_order_records : (placed : List Placed) → AreInOrder placed → RecordsAreInOrder (all_records placed)
in_order_records placed h = records_behind None placed h

-- The place after the last record

abbrev pub place_after : Option Record → ℕ
place_after None = 0
place_after (Some r) = suc r.place

after_records : (place : ℕ) (rs : List Record) → RunOn place rs → rs ≢ [] → place + length rs ≡ place_after (last rs)
after_records place [] h some = absurd (some refl)
after_records place (r ∷ rs) h some = sym (after_last place (r ∷ rs) (last_after r rs) h refl)

empty_or_some : (rs : List Record) → (rs ≡ []) ⊎ (rs ≢ [])
empty_or_some [] = inl refl
empty_or_some (r ∷ rs) = inr (λ e. nonempty e)
  where
    nonempty : r ∷ rs ≡ [] → ⊥
    nonempty e = cc

-- only the newest has none
none_behind : (p : Placed) (ps : List Placed) → MayPrecede p ps → HasNone p → ps ≡ []
none_behind p [] h none = refl
none_behind p (q ∷ ps) h none = absurd (has_records p q ps h none)

-- behind a segment with records
next_behind : (q : Placed) (ps : List Placed) → (HasNone q → ⊥) → RunOn (first_of q) (records_of q) → AreInPlace (Some q) ps → next_place (last_after q ps) ≡ place_after (last (records_of q ++ all_records ps))
next_behind q [] here places h = after_records (first_of q) (records_of q) places here ∙ ap (λ (rs : List Record). place_after (last rs)) (sym (append-nil (records_of q)))
next_behind q (p ∷ ps) here places h =
    ⊎_elim
    (λ (none : HasNone p). newest_empty ps none (none_behind p ps h.0.precedes none))
    (λ (some : HasNone p → ⊥). next_behind p ps some h.0.runs_on.places h.1
    ∙ ap place_after (sym (last_behind_some (records_of q) (records_of p ++ all_records ps) (λ e. some (nil_left (records_of p) (all_records ps) e)))))
    (empty_or_some (records_of p))
  where
    nil_left : (xs ys : List Record) → xs ++ ys ≡ [] → xs ≡ []
    nil_left [] ys e = refl
    nil_left (x ∷ xs) ys e = cc

    newest_empty : (ps : List Placed) → HasNone p → ps ≡ [] → next_place (last_after p ps) ≡ place_after (last (records_of q ++ (records_of p ++ all_records ps)))
    newest_empty ps none e =
        let f : Follows q p = h.0.follows in
        let a : first_of p ≡ next_place q = f.joined (f.begun none) in
        let b : length (records_of p) ≡ 0 = ap length none in
        let c : next_place q ≡ place_after (last (records_of q)) = after_records (first_of q) (records_of q) places here in
        let d : next_place p ≡ place_after (last (records_of q)) = omega (arith, a, b, c) in
        ap (λ (xs : List Placed). next_place (last_after p xs)) e ∙ d
        ∙ ap (λ (rs : List Record). place_after (last rs)) (sym (append-nil (records_of q)) ∙ ap (λ (rs : List Record). records_of q ++ rs) (sym (ap (λ (xs : List Placed). records_of p ++ all_records xs) e ∙ append-nil (records_of p) ∙ none)))

-- A medium goes on with the place after its last record, also where its newest segment has none yet.
pub next_after_last : (placed : List Placed) → AreInOrder placed → next_of (last placed) ≡ place_after (last (all_records placed))
next_after_last [] h = refl
next_after_last (p ∷ ps) h =
    ⊎_elim
    (λ (none : HasNone p). only none (none_behind p ps h.0.precedes none))
    (λ (some : HasNone p → ⊥). next_behind p ps some h.0.runs_on.places h.1)
    (empty_or_some (records_of p))
  where
    only : HasNone p → ps ≡ [] → next_place (last_after p ps) ≡ place_after (last (records_of p ++ all_records ps))
    only none e =
        let a : first_of p ≡ 0 = h.0.follows none in
        let b : length (records_of p) ≡ 0 = ap length none in
        let c : next_place p ≡ 0 = omega (arith, a, b) in
        ap (λ (xs : List Placed). next_place (last_after p xs)) e ∙ c
        ∙ ap (λ (rs : List Record). place_after (last rs)) (sym (ap (λ (xs : List Placed). records_of p ++ all_records xs) e ∙ append-nil (records_of p) ∙ none))

-- Pinned places while segments go and come.
use Rattle.std.proofs.Common.{◌≡◌, ◌⊎◌, inl, inr, ⊎_elim, ℕ, suc, ◌+◌, ◌<◌, ◌≤◌, List, [], ◌∷◌, ◌++◌, length, true, false, Contains, Option, Some, None, refl, sym, ap, ◌∙◌, arith, length-append}
use Rattle.std.specs.Prelude.{Any, Contains}
use Rattle.std.proofs.lemmas.Bool.{and_from, cases_eq, le-leb}
use Rattle.std.proofs.lemmas.List.Elements.{All-contains, Contains-append_left, Contains-append_right, Contains-append_cases}
use Rattle.vdr_terms.specs.Records.{Record}
use Rattle.vdr_terms.specs.Order.{RunOn}
use Rattle.vdr_terms.proofs.Somewhere.{any_cases, any_none, any_left, any_right}
use Rattle.vdr_durability.specs.Layout.{segment_records}
use Rattle.vdr_durability.specs.Retention.{Pin, HaveNoPlace, within}
use Rattle.vdr_durability.specs.Victims.{MayGo}
use Rattle.vdr_durability.proofs.Lists.{contains_here, contains_there, none_contained}
use Rattle.vdr_directory.specs.Sequence.{Placed, all_records, batches_of, first_of, records_of}
use Rattle.vdr_directory.specs.Order.{HasPlace, RunsOn, IsInPlace, AreInPlace, AreInOrder}
use Rattle.vdr_directory.specs.Lookup.{HoldAll}
use Rattle.vdr_directory.specs.Growing.{with_batch_in}
use Rattle.vdr_directory.proofs.Ordering.{records_with_batch}
use Rattle.vdr_durability.proofs.Ordered.{places_run}

-- All places of each of these pins stand in the segments.
abbrev pub HoldPins : List Pin → List Placed → Type 0
HoldPins pins placed = (pin : Pin) → Contains pins pin → HoldAll pin.a pin.b placed

-- Some of two lists

pub any_one : {X : Type 0} (P : X → Type 0) (x : X) → P x → Any P (x ∷ [])
any_one P x p = (0, x, omega arith, refl, p)

pub any_append_cases : {X : Type 0} (P : X → Type 0) (xs ys : List X) → Any P (xs ++ ys) → Any P xs ⊎ Any P ys
any_append_cases P [] ys h = inr h
any_append_cases P (x ∷ xs) ys h =
    ⊎_elim
    (λ (p : P x). inl (any_left P (x ∷ []) xs (any_one P x p)))
    (λ (k : Any P (xs ++ ys)). ⊎_elim (λ (l : Any P xs). inl (any_right P (x ∷ []) xs l)) (λ (r : Any P ys). inr r) (any_append_cases P xs ys k))
    (any_cases P x (xs ++ ys) h)

-- A segment that goes

in_place : (o : Option Placed) (before : List Placed) (v : Placed) (after : List Placed) → AreInPlace o (before ++ v ∷ after) → (q : Option Placed) × IsInPlace q v after
in_place o [] v after h = (o, h.0)
in_place o (p ∷ before) v after h = in_place (Some p) before v after h.1

pub victim_in_place : (before : List Placed) (v : Placed) (after : List Placed) → AreInOrder (before ++ v ∷ after) → (q : Option Placed) × IsInPlace q v after
victim_in_place before v after h = in_place None before v after h

-- The record of a place of a run.
pub record_at : (place : ℕ) (rs : List Record) (q : ℕ) → RunOn place rs → place ≤ q → q < place + length rs → (r : Record) × Contains rs r × (r.place ≡ q)
record_at place [] q h low high = absurd (omega (arith, low, high))
record_at place (r ∷ rs) q h low high = elim (cases_eq q place) [
  | inl same ↦ (r, contains_here r rs, h.0 ∙ sym same)
  | inr other ↦
      let later = record_at (suc place) rs q h.1 (omega (arith, low, other)) (omega (arith, high)) in
      (later.0, contains_there r rs later.0 later.1, later.2)
]

-- A segment that may go has no pinned place.
no_place : (seconds : ℕ) (pins : List Pin) (held : List Record) (v : Placed) (pin : Pin) (place : ℕ) → MayGo seconds pins held (batches_of v) → RunsOn v → Contains pins pin
    → pin.a ≤ place → place ≤ pin.b → HasPlace place v → ⊥
no_place seconds pins held v pin place may_go runs there low high has =
    let found = record_at (first_of v) (records_of v) place runs.places has.from has.below in
    let none : HaveNoPlace pin.a pin.b (segment_records (batches_of v)) = All-contains (λ pin. HaveNoPlace pin.a pin.b (segment_records (batches_of v))) pins pin may_go.free there in
    let outside : within pin.a pin.b found.0 ≡ false = All-contains (λ r. within pin.a pin.b r ≡ false) (records_of v) found.0 none found.1 in
    let at = found.2 in
    let inside : within pin.a pin.b found.0 ≡ true = and_from _ _ (le-leb pin.a found.0.place (omega (arith, low, at))) (le-leb found.0.place pin.b (omega (arith, high, at))) in
    let differ : true ≡ false = sym inside ∙ outside in
    cc

pub pins_stay : (seconds : ℕ) (pins : List Pin) (held : List Record) (before : List Placed) (v : Placed) (after : List Placed) → MayGo seconds pins held (batches_of v)
    → AreInOrder (before ++ v ∷ after) → HoldPins pins (before ++ v ∷ after) → HoldPins pins (before ++ after)
pins_stay seconds pins held before v after may_go order h pin there place low high =
    ⊎_elim
    (λ (k : Any (HasPlace place) before). any_left (HasPlace place) before after k)
    (λ (k : Any (HasPlace place) (v ∷ after)). ⊎_elim
    (λ (has : HasPlace place v). absurd (no_place seconds pins held v pin place may_go (victim_in_place before v after order).1.runs_on there low high has))
    (λ (l : Any (HasPlace place) after). any_right (HasPlace place) before after l)
    (any_cases (HasPlace place) v after k))
    (any_append_cases (HasPlace place) before (v ∷ after) (h pin there place low high))

-- Segments that come

pub pins_begun : (pins : List Pin) (placed more : List Placed) → HoldPins pins placed → HoldPins pins (placed ++ more)
pins_begun pins placed more h pin there place low high = any_left (HasPlace place) placed more (h pin there place low high)

pub more_places : (place : ℕ) (p : Placed) (records : List Record) → HasPlace place p → HasPlace place (with_batch_in p records)
more_places place p records h = record {
  from = h.from;
  below = omega (arith, h.below, ap length (records_with_batch p records), length-append (records_of p) records);
}

-- One that has all places of another stands for it.
pub pins_with : (pins : List Pin) (before : List Placed) (p q : Placed) (after : List Placed) → ((place : ℕ) → HasPlace place p → HasPlace place q) → HoldPins pins (before ++ p ∷ after) → HoldPins pins (before ++ q ∷ after)
pins_with pins before p q after has_all h pin there place low high =
    ⊎_elim
    (λ (k : Any (HasPlace place) before). any_left (HasPlace place) before (q ∷ after) k)
    (λ (k : Any (HasPlace place) (p ∷ after)). any_right (HasPlace place) before (q ∷ after) (⊎_elim
    (λ (has : HasPlace place p). any_left (HasPlace place) (q ∷ []) after (any_one (HasPlace place) q (has_all place has)))
    (λ (l : Any (HasPlace place) after). any_right (HasPlace place) (q ∷ []) after l)
    (any_cases (HasPlace place) p after k)))
    (any_append_cases (HasPlace place) before (p ∷ after) (h pin there place low high))

-- A place that stands in the segments is that of a record.
pub place_recorded : (place : ℕ) (placed : List Placed) → AreInOrder placed → Any (HasPlace place) placed → (r : Record) × Contains (all_records placed) r × (r.place ≡ place)
place_recorded place placed order h = go None placed order h
  where
    go : (o : Option Placed) (ps : List Placed) → AreInPlace o ps → Any (HasPlace place) ps → (r : Record) × Contains (all_records ps) r × (r.place ≡ place)
    go o [] order h = absurd (any_none (HasPlace place) h)
    go o (p ∷ ps) order h =
        ⊎_elim
        (λ (has : HasPlace place p).
        let found = record_at (first_of p) (records_of p) place order.0.runs_on.places has.from has.below in
        let here : (r : Record) × Contains (all_records (p ∷ ps)) r × (r.place ≡ place) = (found.0, Contains-append_left (records_of p) (all_records ps) found.0 found.1, found.2) in
        here)
        (λ (k : Any (HasPlace place) ps).
        let found = go (Some p) ps order.1 k in
        let there : (r : Record) × Contains (all_records (p ∷ ps)) r × (r.place ≡ place) = (found.0, Contains-append_right (records_of p) (all_records ps) found.0 found.1, found.2) in
        there)
        (any_cases (HasPlace place) p ps h)

-- A recorded place stands in a segment.

-- A recorded place stands in a segment.
pub placed_at : (o : Option Placed) (placed : List Placed) (r : Record) → AreInPlace o placed → Contains (all_records placed) r → Any (HasPlace r.place) placed
placed_at o [] r order there = absurd (none_contained r there)
placed_at o (p ∷ ps) r order there =
    ⊎_elim
    (λ (k : Contains (records_of p) r).
    let at = places_run (first_of p) (records_of p) r order.0.runs_on.places k in
    any_left (HasPlace r.place) (p ∷ []) ps (any_one (HasPlace r.place) p (record { from = at.0; below = at.1 })))
    (λ (k : Contains (all_records ps) r). any_right (HasPlace r.place) (p ∷ []) ps (placed_at (Some p) ps r order.1 k))
    (Contains-append_cases (records_of p) (all_records ps) r there)

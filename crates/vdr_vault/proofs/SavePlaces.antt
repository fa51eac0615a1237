-- The places of an incident, and what of them stands on the long-term medium.
use Rattle.std.proofs.Common.{◌≡◌, ◌<◌, ◌≤◌, ◌+◌, ◌==◌, ℕ, List, [], ◌∷◌, find, slice_get, option_map, Some, None, refl, sym, ap, ◌∙◌, subst, arith}
use Rattle.std.specs.Prelude.{Any, Contains}
use Rattle.std.proofs.lemmas.Bool.{and_parts, cond-true, cond-false, eq-eqb, leb-true, ne_eqb}
use Rattle.std.proofs.lemmas.List.Elements.{All-contains}
use Rattle.std.proofs.lemmas.Option.{none-some, same_Some}
use Rattle.vdr_terms.specs.Order.{AreInOrder as RecordsAreInOrder, RunOn}
use Rattle.vdr_terms.specs.Records.{Record, last, last_after, second}
use Rattle.vdr_terms.specs.Windows.{window}
use Rattle.vdr_durability.specs.Retention.{at_places, within}
use Rattle.vdr_durability.specs.Victims.{SpansAtMost}
use Rattle.vdr_durability.proofs.Lists.{contains_here, filter_test, filter_was, last_contained, none_contained}
use Rattle.vdr_durability.proofs.Ordered.{by_place, no_later, places_run}
use Rattle.vdr_durability.proofs.Retained.{in_the_window, recent}
use Rattle.vdr_directory.specs.Lookup.{HoldAll}
use Rattle.vdr_directory.specs.Order.{AreInOrder, HasPlace}
use Rattle.vdr_directory.specs.Sequence.{Placed, all_records}
use Rattle.vdr_durability.specs.Soundness.{IsUnbroken}
use Rattle.vdr_vault.specs.Saves.{first_in_window}
use Rattle.vdr_ring.proofs.Pinned.{record_at, placed_at}

-- No record has a greater place or tick than the last one.
pub before_last : (xs : List Record) (newest r : Record) → RecordsAreInOrder xs → last xs ≡ Some newest → Contains xs r → (r.place ≤ newest.place) × (r.tick ≤ newest.tick)
before_last [] newest r order ends there = absurd (none_contained r there)
before_last (x ∷ xs) newest r order ends there =
    subst (λ (y : Record). (r.place ≤ y.place) × (r.tick ≤ y.tick)) (same_Some (last_after x xs) newest ends) (no_later x xs r order there)

-- The record of the last place is the last one.
pub find_last : (xs : List Record) (r : Record) → RecordsAreInOrder xs → last xs ≡ Some r → find (λ x. x.place == r.place) xs ≡ Some r
find_last [] r order ends = absurd (none-some r ends)
find_last (x ∷ []) r order ends =
    let same = same_Some x r ends in
    cond-true (x.place == r.place) (Some x) None (eq-eqb x.place r.place (ap (λ (y : Record). y.place) same)) ∙ ends
find_last (x ∷ y ∷ ys) r order ends =
    let later : x.place < r.place = (All-contains (λ later. (x.place < later.place) × (x.tick ≤ later.tick)) (y ∷ ys) r order.0 (last_contained (y ∷ ys) r ends)).0 in
    cond-false (x.place == r.place) (Some x) (find (λ x. x.place == r.place) (y ∷ ys)) (ne_eqb x.place r.place (omega (arith, later))) ∙ find_last (y ∷ ys) r order.1 ends

-- The window has a first record.
pub record IsFirst (seconds : ℕ) (xs : List Record) (a : ℕ) : Type 0 where
  pub r : Record
  pub there : Contains (window seconds xs) r
  pub place : r.place ≡ a

pub first_is : (seconds a : ℕ) (xs : List Record) → first_in_window seconds xs ≡ Some a → IsFirst seconds xs a
first_is seconds a xs is = go (window seconds xs) refl
  where
    go : (w : List Record) → window seconds xs ≡ w → IsFirst seconds xs a
    go [] e = absurd (none-some a (ap (λ (w : List Record). option_map (λ r. r.place) (slice_get w 0)) (sym e) ∙ is))
    go (r ∷ rs) e = record {
      r = r;
      there = subst (λ (w : List Record). Contains w r) (sym e) (contains_here r rs);
      place = same_Some r.place a (ap (λ (w : List Record). option_map (λ r. r.place) (slice_get w 0)) (sym e) ∙ is);
    }

pub first_there : (seconds : ℕ) (xs : List Record) (newest : Record) → 0 < seconds → last xs ≡ Some newest → (a : ℕ) × (first_in_window seconds xs ≡ Some a)
first_there seconds xs newest some ends = go (window seconds xs) refl
  where
    in_it : Contains (window seconds xs) newest
    in_it = in_the_window seconds xs newest (record { newest = newest; ends = ends; there = last_contained xs newest ends; close = omega (arith, some) })

    go : (w : List Record) → window seconds xs ≡ w → (a : ℕ) × (first_in_window seconds xs ≡ Some a)
    go [] e = absurd (none_contained newest (subst (λ (w : List Record). Contains w newest) e in_it))
    go (r ∷ rs) e = (r.place, ap (λ (w : List Record). option_map (λ r. r.place) (slice_get w 0)) e)

module _ (seconds a : ℕ) (xs : List Record) (newest : Record) (order : RecordsAreInOrder xs) (ends : last xs ≡ Some newest) (first : IsFirst seconds xs a) where
  -- It ends no earlier than it begins.
  pub a_first : a ≤ newest.place
  a_first =
      let there = (recent seconds xs first.r first.there).there in
      let low = (before_last xs newest first.r order ends there).0 in
      let at = first.place in
      omega (arith, low, at)

  -- Its records span no more seconds.
  pub spans : (b : ℕ) → SpansAtMost seconds (at_places a b xs)
  spans b r s r_there s_there =
      let f = recent seconds xs first.r first.there in
      let above : a ≤ r.place = leb-true a r.place (and_parts _ _ (filter_test (within a b) xs r r_there)).0 in
      let at = first.place in
      let rises : first.r.tick ≤ r.tick = by_place xs first.r r order f.there (filter_was (within a b) xs r r_there) (omega (arith, above, at)) in
      let late = (before_last xs newest s order ends (filter_was (within a b) xs s s_there)).1 in
      let same : f.newest ≡ newest = same_Some f.newest newest (sym f.ends ∙ ends) in
      let close : second newest.tick < second first.r.tick + seconds = subst (λ (x : Record). second x.tick < second first.r.tick + seconds) same f.close in
      omega (arith, rises, late, close)

-- Where no place of the window is skipped, all places of the incident stand in the segments.
pub unbroken_holds : (seconds a : ℕ) (placed : List Placed) (newest : Record) → 0 < seconds → AreInOrder placed → last (all_records placed) ≡ Some newest → first_in_window seconds (all_records placed) ≡ Some a
    → IsUnbroken seconds (all_records placed) → HoldAll a newest.place placed
unbroken_holds seconds a placed newest some order ends first (from, run) place low high =
    let all = all_records placed in
    let start : from ≡ a = begins (window seconds all) run first in
    let in_it : Contains (window seconds all) newest = in_the_window seconds all newest (record { newest = newest; ends = ends; there = last_contained all newest ends; close = omega (arith, some) }) in
    let below = (places_run from (window seconds all) newest run in_it).1 in
    let found = record_at from (window seconds all) place run (omega (arith, start, low)) (omega (arith, below, high)) in
    subst (λ (n : ℕ). Any (HasPlace n) placed) found.2 (placed_at None placed found.0 order (recent seconds all found.0 found.1).there)
  where
    begins : (w : List Record) → RunOn from w → option_map (λ r. r.place) (slice_get w 0) ≡ Some a → from ≡ a
    begins [] run is = absurd (none-some a is)
    begins (r ∷ rs) run is = sym run.0 ∙ same_Some r.place a is

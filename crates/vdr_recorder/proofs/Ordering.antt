-- The records of a history over media are in order, and so are those of legible media that show it.
use Rattle.std.proofs.Common.{◌≡◌, ◌+◌, ◌<◌, ◌≤◌, ℕ, suc, List, [], ◌∷◌, ◌++◌, length, All, Contains, Option, Some, None, sym, ap, ◌∙◌, subst, arith, append_assoc}
use Rattle.std.proofs.lemmas.Grind.{flat_map-append}
use Rattle.std.proofs.lemmas.List.Elements.{All-append, All-contains, All-head, All-tail}
use Rattle.vdr_terms.specs.Order.{AreInOrder, NeverFalls, RunOn}
use Rattle.vdr_terms.specs.Records.{Record, last}
use Rattle.vdr_core.specs.Histories.{Event, Opening, all_records, recorded, records_of_act, stamp_of}
use Rattle.vdr_core.specs.RunStates.{IsRecorderHistory}
use Rattle.vdr_core.specs.Runs.{Stamp, last_tick}
use Rattle.vdr_core.proofs.Growing.{continues_run}
use Rattle.vdr_durability.specs.Regular.{FollowOn}
use Rattle.vdr_durability.specs.Retention.{AreAmong}
use Rattle.vdr_durability.proofs.Following.{follow_in_order}
use Rattle.vdr_durability.proofs.Lists.{all_from, contains_here, contains_there}
use Rattle.vdr_durability.proofs.Ordered.{by_place, parts_in_order, places_run}
use Rattle.vdr_core.proofs.MadeHistory.{made_runs_on}
use Rattle.vdr_durability.specs.Readings.{next_after}
use Rattle.vdr_durability.specs.Shown.{GoesOnFrom}
use Rattle.vdr_recorder.specs.Recordings.{acts_of, start_of_opening}
use Rattle.vdr_recorder.proofs.Continuing.{recorded_acts}

-- What a recorder commits follows the last record before.
module _ (opening : Opening) (events : List Event) (made : IsRecorderHistory opening events) where
  run_on : RunOn opening.next_place (recorded events)
  run_on = subst (RunOn opening.next_place) (recorded_acts events)
      (continues_run opening.settings.channels opening.next_place _ (made_runs_on (start_of_opening opening) (acts_of events) made).0)

  rising : NeverFalls (last_tick opening.last) (recorded events)
  rising = subst (NeverFalls (last_tick opening.last)) (recorded_acts events) (made_runs_on (start_of_opening opening) (acts_of events) made).1

  follows : (o : Option Record) → opening.next_place ≡ next_after o → opening.last ≡ stamp_of o None → FollowOn o (recorded events)
  follows None place stamp = (opening.next_place, run_on, subst (λ (s : Option Stamp). NeverFalls (last_tick s) (recorded events)) stamp rising)
  follows (Some r) place stamp =
      (subst (λ (n : ℕ). RunOn n (recorded events)) place run_on, subst (λ (s : Option Stamp). NeverFalls (last_tick s) (recorded events)) stamp rising)

  -- All that a medium was given is in order, if it was so as it was opened, up to the last record.
  pub all_in_order : (m : ℕ) → GoesOnFrom m opening → AreInOrder (opening.records m) → AreInOrder (all_records opening m events)
  all_in_order m from order = follow_in_order (opening.records m) (recorded events) order (follows (last (opening.records m)) from.place from.stamp)

-- And the first of it.
pub front_in_order : (opening : Opening) (m : ℕ) (first rest events : List Event) → events ≡ first ++ rest → AreInOrder (all_records opening m events) → AreInOrder (all_records opening m first)
front_in_order opening m first rest events split order =
    (parts_in_order (all_records opening m first) (recorded rest) (subst AreInOrder (ap (λ (es : List Event). all_records opening m es) split ∙ both_parts) order)).0
  where
    two : (first : List Event) → recorded (first ++ rest) ≡ recorded first ++ recorded rest
    two first = flat_map-append (λ (e : Event). records_of_act e.act) first rest

    both_parts : all_records opening m (first ++ rest) ≡ all_records opening m first ++ recorded rest
    both_parts = ap (λ (rs : List Record). opening.records m ++ rs) (two first) ∙ sym (append_assoc (opening.records m) (recorded first) (recorded rest))

-- Places that rise

abbrev pub PlacesRise : List Record → Type 0
PlacesRise [] = Unit {0}
PlacesRise (r ∷ rs) = All (λ later. r.place < later.place) rs × PlacesRise rs

-- Records among others that are in order are in order where their places rise.
pub among_in_order : (all held : List Record) → AreInOrder all → AreAmong held all → PlacesRise held → AreInOrder held
among_in_order all [] order among rise = tt
among_in_order all (r ∷ rs) order among rise = (
  all_from (λ later. (r.place < later.place) × (r.tick ≤ later.tick)) rs (λ later there.
      let lower = All-contains (λ later. r.place < later.place) rs later rise.0 there in (
        lower,
        by_place all r later order (All-contains (Contains all) (r ∷ rs) r among (contains_here r rs))
            (All-contains (Contains all) (r ∷ rs) later among (contains_there r rs later there)) (omega (arith, lower)),
      )),
  among_in_order all rs order (all_from (Contains all) rs (λ later there. All-contains (Contains all) (r ∷ rs) later among (contains_there r rs later there))) rise.1,
)

pub rise_join : (xs ys : List Record) (next : ℕ) → PlacesRise xs → PlacesRise ys → All (λ r. r.place < next) xs → All (λ r. next ≤ r.place) ys → PlacesRise (xs ++ ys)
rise_join [] ys next hx hy below above = hy
rise_join (x ∷ xs) ys next hx hy below above = (
  All-append (λ later. x.place < later.place) xs ys hx.0 (all_from (λ later. x.place < later.place) ys (λ later there.
      let a = All-head (λ r. r.place < next) x xs below in
      let b = All-contains (λ r. next ≤ r.place) ys later above there in omega (arith, a, b))),
  rise_join xs ys next hx.1 hy (All-tail (λ r. r.place < next) x xs below) above,
)

pub run_rises : (place : ℕ) (rs : List Record) → RunOn place rs → PlacesRise rs
run_rises place [] h = tt
run_rises place (r ∷ rs) h = (
  all_from (λ later. r.place < later.place) rs (λ later there. let a = (places_run (suc place) rs later h.1 there).0 in let b = h.0 in omega (arith, a, b)),
  run_rises (suc place) rs h.1,
)

pub run_bounds : (place : ℕ) (rs : List Record) → RunOn place rs → All (λ r. (place ≤ r.place) × (r.place < place + length rs)) rs
run_bounds place rs h = all_from (λ r. (place ≤ r.place) × (r.place < place + length rs)) rs (λ r there. places_run place rs r h there)

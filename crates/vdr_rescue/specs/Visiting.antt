-- What a query selects of the records that one medium gives, and what is left of it.
use Rattle.std.specs.Prelude.{get_or, Result, Err, ⊤, ◌≡◌, ◌&&◌, ℕ, Bool, true, false, nat_le, List, [], ◌∷◌, filter, Option, Some, None}
use Rattle.vdr_terms.specs.Records.{Record}
use Rattle.vdr_terms.specs.Queries.{Medium, Query, matches}
use Rattle.vdr_terms.specs.Queries.Medium.{WindowOf, Incident}
use Rattle.vdr_core.specs.Histories.{live}
use Rattle.vdr_core.specs.Histories as histories
use Rattle.vdr_outside.specs.Causes.{NoneFalls, Rose}
use Rattle.vdr_visit.specs.declared.visit_refused.VisitRefused.{VisitRefused}
use Rattle.vdr_visit.specs.declared.visit_refused.VisitRefused.TheVariants.{Fault, Damaged, NoChannel, NoIncident}
use Rattle.vdr_rescue.specs.declared.told.Told.{Told}
use Rattle.vdr_rescue.specs.Cursors.{CursorState, Ends}

-- What a medium has of the places that are asked for: all, for its window is not asked, or those of a live incident.
abbrev pub is_among : Option histories.Incident → (place : ℕ) → Bool
is_among None place = false
is_among (Some x) place = nat_le x.a place && nat_le place x.b

abbrev pub is_of : List (Option histories.Incident) → Medium → (place : ℕ) → Bool
is_of table (WindowOf m) place = true
is_of table (Incident id) place = is_among (live table id) place

abbrev pub selects : List (Option histories.Incident) → Query → Record → Bool
selects table query r = is_of table query.medium r.place && matches query r

abbrev pub selected_by : List (Option histories.Incident) → Query → List Record → List Record
selected_by table query given = filter (selects table query) given

-- From where the cursor stands the query selects these records, and in the end this is told of all segments.
pub record IsLeft (bytes : List ℕ) (table : List (Option histories.Incident)) (c : CursorState) (query : Query) (records : List Record) (all : List Told) : Type 0 where
  pub given : List Record
  pub ends : Ends bytes c given all
  pub are : records ≡ selected_by table query given

-- What is left behind a step to the next record that is selected, or to the end.
abbrev pub SelectsNext : List ℕ → List (Option histories.Incident) → (found : Bool) → Record → CursorState → Query → List Record → List Told → Type 0
SelectsNext bytes table true item now query records all = (more : List Record) × (records ≡ item ∷ more) × IsLeft bytes table now query more all
SelectsNext bytes table false item now query records all = (records ≡ []) × (all ≡ now.told)

-- No count of faults falls, a fault is answered only where that of medium m rose, and no other refusal of a read is.
pub record HasVisitFault {R : Type 0} (m : ℕ) (before now : List ℕ) (result : Result ⊤ (VisitRefused R)) : Type 0 where
  pub later : NoneFalls before now
  pub rose : result ≡ Err Fault → Rose (get_or before m 0) (get_or now m 0)
  pub channel : result ≡ Err NoChannel → ⊥
  pub incident : result ≡ Err NoIncident → ⊥
  pub undamaged : (k offset : ℕ) → result ≡ Err (Damaged k offset) → ⊥

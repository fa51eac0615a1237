-- Why a visit of records ends before its end.
use Rattle.std.specs.Prelude.{◌≡◌, ◌↔◌, ◌≤◌, ℕ, Bool, true, false, List, is_none, nat_le, Option, Some, None, Result, Ok, Err, ⊤}
use Rattle.vdr_terms.specs.Queries.{Medium}
use Rattle.vdr_terms.specs.Queries.Medium.{WindowOf, Incident}
use Rattle.vdr_core.specs.Histories.{live}
use Rattle.vdr_core.specs.Histories as histories
use Rattle.vdr_outside.specs.Causes.{Rose}
use Rattle.vdr_visit.specs.declared.visit_refused.VisitRefused.{VisitRefused}
use Rattle.vdr_visit.specs.declared.visit_refused.VisitRefused.TheVariants.{NoChannel, NoIncident, Fault, Output, Own}
use Rattle.vdr_visit.specs.declared.visit_refused.VisitorRefused.{VisitorRefused}
use Rattle.vdr_visit.specs.declared.visit_refused.VisitorRefused.TheVariants as visitors

-- How a visit ends where the visitor stops.
abbrev pub stop_of : {R : Type 0} → VisitorRefused R → VisitRefused R
stop_of visitors.Output = Output
stop_of (visitors.Own reason) = Own reason

-- P holds of a visitor's own reason.
abbrev pub IfOwn : {R : Type 0} → Result ⊤ (VisitorRefused R) → (R → Type 0) → Type 0
IfOwn (Ok done) P = ⊤
IfOwn (Err visitors.Output) P = ⊤
IfOwn (Err (visitors.Own reason)) P = P reason

-- The output's count of faults never falls, and the output is blamed only where it rose.
pub record HasOutputCause (before now : ℕ) (blamed : Type 0) : Type 0 where
  pub later : before ≤ now
  pub rose : blamed → Rose before now

-- So many channels have none of this number.
abbrev pub lacks_channel : ℕ → Option ℕ → Bool
lacks_channel count None = false
lacks_channel count (Some k) = nat_le count k

-- The query asks for an incident that is not live.
abbrev pub lacks_incident : List (Option histories.Incident) → Medium → Bool
lacks_incident table (WindowOf m) = false
lacks_incident table (Incident id) = is_none (live table id)

-- NoChannel is answered exactly where the channel is lacking, and NoIncident exactly where the incident alone is.
pub record IsAccepted {R : Type 0} (no_channel no_incident : Bool) (result : Result ⊤ (VisitRefused R)) : Type 0 where
  pub channel : (result ≡ Err NoChannel) ↔ (no_channel ≡ true)
  pub incident : (result ≡ Err NoIncident) ↔ ((no_channel ≡ false) × (no_incident ≡ true))

-- Why nothing is read: no such channel, else no such incident.
abbrev pub unanswered : {R : Type 0} → (no_channel no_incident : Bool) → Result ⊤ (VisitRefused R)
unanswered true no_incident = Err NoChannel
unanswered false true = Err NoIncident
unanswered false false = Ok tt

-- What is answered after a write has failed: why nothing is read, else the fault.
abbrev pub after_fault : {R : Type 0} → Result ⊤ (VisitRefused R) → Result ⊤ (VisitRefused R)
after_fault (Ok none) = Err Fault
after_fault (Err stop) = Err stop

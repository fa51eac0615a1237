-- Why a visit of a vault's media ends before its end.
use Rattle.std.specs.Prelude.{◌≡◌, ◌⊎◌, ℕ, Bool, true, List, get_or, sum}
use Rattle.vdr_outside.specs.Causes.{NoneFalls, Rose}
use Rattle.vdr_ring.specs.declared.refused.ReadRefused.{ReadRefused}
use Rattle.vdr_ring.specs.declared.refused.ReadRefused.TheVariants as reads
use Rattle.vdr_visit.specs.declared.visit_refused.VisitRefused.{VisitRefused}
use Rattle.vdr_visit.specs.declared.visit_refused.VisitRefused.TheVariants.{Fault, Damaged}

-- How a visit ends where a read is refused.
abbrev pub stop_by : {R : Type 0} → ReadRefused → VisitRefused R
stop_by reads.Fault = Fault
stop_by (reads.Damaged m offset) = Damaged m offset

-- No count of faults of the media falls. A fault is answered where a write had failed before, and else only where the count of medium m rose,
-- and so the sum.
pub record HasVisitCause (m : ℕ) (failed : Bool) (before now : List ℕ) (answered : Type 0) : Type 0 where
  pub later : NoneFalls before now
  pub on_medium : answered → (failed ≡ true) ⊎ Rose (get_or before m 0) (get_or now m 0)
  pub in_all : answered → (failed ≡ true) ⊎ Rose (sum before) (sum now)

use Rattle.std.proofs.Common.{◌≢◌, ◌<◌, ℕ, Some, get_or}
use Rattle.vdr_capture.specs.declared.lane.Cause.TheVariants.{Failed}
use Rattle.vdr_desk.specs.declared.desk.Desk.{Desk}
use Rattle.vdr_desk.proofs.passing.failed_link.Given as goal

abbrev pub invariant-loop-i : goal.invariant-loop-i
invariant-loop-i g l = (k : ℕ) (d : Desk g.row.L.Denot g.row.E.Denot) → k < l.i → (get_or l.desks k d).cause ≢ Some Failed

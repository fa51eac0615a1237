use Rattle.std.proofs.Common.{◌≢◌, ◌<◌, ℕ, Some, get_or}
use Rattle.vdr_capture.specs.declared.lane.Cause.TheVariants.{Failed}
use Rattle.vdr_capture.specs.declared.lane.Lane.{Lane}
use Rattle.vdr_session.proofs.summing.failed_port.Given as goal

abbrev pub invariant-loop-group : goal.invariant-loop-group
invariant-loop-group g l = (k : ℕ) (d : Lane g.row.P.Denot) → k < l.group → (get_or l.lanes k d).cause ≢ Some Failed

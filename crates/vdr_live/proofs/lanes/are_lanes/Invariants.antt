use Rattle.std.proofs.Common.{◌≡◌, ◌<◌, ℕ, get_or}
use Rattle.vdr_capture.specs.declared.lane.Lane.{Lane}
use Rattle.vdr_live.proofs.lanes.are_lanes.Given as goal

abbrev pub invariant-loop-group : goal.invariant-loop-group
invariant-loop-group g l = (k : ℕ) (d : Lane g.row.P.Denot) → k < l.group → (get_or l.lanes k d).group ≡ k

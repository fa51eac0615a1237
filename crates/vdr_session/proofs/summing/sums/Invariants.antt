use Rattle.std.proofs.Common.{◌≡◌, ◌≤◌, ◌<◌, ℕ, List, Some, None, is_some, true, length, get_or}
use Rattle.vdr_core.specs.Runs.{RunStart}
use Rattle.vdr_core.specs.Taken.{Captured}
use Rattle.vdr_capture.specs.declared.lane.Lane.{Lane}
use Rattle.vdr_run.specs.Making.{CountsItems}
use Rattle.vdr_session.specs.Summing.{summed}
use Rattle.vdr_session.proofs.summing.sums.Given as goal

abbrev pub invariant-loop-group : goal.invariant-loop-group
invariant-loop-group g l =
    ((k : ℕ) → k < l.group → is_some (get_or l.sums k None) ≡ is_some (get_or l.queues k None))
    × ((start : RunStart) (popped : List Captured) → CountsItems start popped l.recorder.maker → (k : ℕ) (d : Lane g.row.P.Denot) → k < l.group → is_some (get_or l.queues k None) ≡ true
    → get_or l.sums k None ≡ Some (summed start popped (get_or l.lanes k d).tally k))
    × ((k : ℕ) → l.group ≤ k → get_or l.sums k None ≡ None)
    × (length l.sums ≡ 16)

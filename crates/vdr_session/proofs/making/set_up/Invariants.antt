use Rattle.std.proofs.Common.{◌≡◌, ◌≤◌, ◌<◌, ℕ, false, None, length, get_or}
use Rattle.vdr_capture.specs.declared.lane.Lane.{Lane}
use Rattle.vdr_session.specs.Ran.{IsSetUp}
use Rattle.vdr_session.proofs.making.set_up.Given as goal

abbrev pub invariant-loop-group : goal.invariant-loop-group
invariant-loop-group g l =
    ((k : ℕ) (d : Lane g.row.P.Denot) → k < l.group → IsSetUp (get_or l.configured k false) k l.capacity (get_or l.queues k None) (get_or l.takers k None) (get_or l.initial.lanes k d) (get_or l.lanes k d))
    × ((k : ℕ) (d : Lane g.row.P.Denot) → l.group ≤ k → get_or l.lanes k d ≡ get_or l.initial.lanes k d)
    × (length l.lanes ≡ 16) × (length l.queues ≡ 16) × (length l.takers ≡ 16)
    × ((k : ℕ) (d : Lane g.row.P.Denot) → (get_or l.lanes k d).port ≡ (get_or l.initial.lanes k d).port)

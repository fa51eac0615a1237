use Rattle.std.proofs.Common.{◌≡◌, ◌≤◌, ◌<◌, ℕ, Some, None, length, get_or}
use Rattle.vdr_intake.specs.Ends.{QueueId, Taking}
use Rattle.vdr_session.specs.Summing.{KnowsFull, paired}
use Rattle.vdr_session.proofs.summing.intakes_of.Given as goal

abbrev pub invariant-loop-group : goal.invariant-loop-group
invariant-loop-group l =
    ((k : ℕ) → k < l.group → get_or l.intakes k None ≡ paired (get_or l.fn.queues k None) (get_or l.fn.takers k None))
    × ((k : ℕ) (i : QueueId × Taking) → k < l.group → get_or l.intakes k None ≡ Some i → KnowsFull i.1)
    × ((k : ℕ) → l.group ≤ k → get_or l.queues k None ≡ get_or l.fn.queues k None)
    × ((k : ℕ) → l.group ≤ k → get_or l.takers k None ≡ get_or l.fn.takers k None)
    × (length l.intakes ≡ 16) × (length l.queues ≡ 16) × (length l.takers ≡ 16)

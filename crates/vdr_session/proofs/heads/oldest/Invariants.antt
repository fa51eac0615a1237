use Rattle.std.proofs.Common.{◌≤◌, ◌<◌, ℕ, None, get_or}
use Rattle.vdr_session.specs.Heads.{received_of}
use Rattle.vdr_session.proofs.heads.oldest.Given as goal

abbrev pub invariant-loop-group : goal.invariant-loop-group
invariant-loop-group l = (l.oldest < l.group) × ((k : ℕ) → k < l.group → received_of (get_or l.heads l.oldest None) ≤ received_of (get_or l.heads k None))

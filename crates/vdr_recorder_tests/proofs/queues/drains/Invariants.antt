use Rattle.std.proofs.Common.{◌≡◌}
use Rattle.vdr_recorder_tests.proofs.queues.drains.Given as goal

abbrev pub invariant-loop : goal.invariant-loop
invariant-loop g l = l.taker.queue ≡ l.queue

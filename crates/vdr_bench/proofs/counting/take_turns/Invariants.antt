use Rattle.std.proofs.Common.{◌≡◌}
use Rattle.vdr_bench.proofs.counting.take_turns.Given as goal

abbrev pub invariant-loop : goal.invariant-loop
invariant-loop g l = l.worker.pass.latch ≡ l.latch

use Rattle.std.proofs.Common.{◌≡◌, ◌+◌, ◌^◌, All}
use Rattle.vdr_bench.proofs.counting.workers_of.Given as goal

abbrev pub invariant-loop : goal.invariant-loop
invariant-loop l = (l.first.latch ≡ l.latch) × (l.first.parts + l.counter ≡ 2 ^ 33) × All (λ w. w.pass.latch ≡ l.latch) l.workers.items

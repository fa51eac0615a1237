use Rattle.std.proofs.Common.{◌≡◌}
use Rattle.vdr_bench.proofs.pass.push.Given as goal

abbrev pub invariant-loop : goal.invariant-loop
invariant-loop g l = record {
  queue : l.feeder.queue ≡ l.queue;
  same : l.feeder.pushed ≡ l.initial.feeder.pushed;
  item : l.item ≡ l.initial.item;
}

use Rattle.std.proofs.Common.{◌≡◌}
use Rattle.vdr_terms.specs.Records.{last}
use Rattle.vdr_intake.specs.Items.{number_after}
use Rattle.vdr_bench.proofs.pass.feed.Given as goal

abbrev pub invariant-loop-number : goal.invariant-loop-number
invariant-loop-number g l = record {
  queue : l.feeder.queue ≡ l.queue;
  next : number_after (last l.feeder.pushed) ≡ l.number;
}

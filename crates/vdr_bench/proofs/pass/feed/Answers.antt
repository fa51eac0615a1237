use Rattle.std.proofs.Common.{◌≡◌, ap, ◌∙◌, arith}
use Rattle.vdr_terms.specs.Records.{last}
use Rattle.vdr_intake.specs.Items.{number_after}
use Rattle.vdr_intake.proofs.Runs.{last_more}
use Rattle.vdr_bench.proofs.pass.feed.Goals as goal

pub loop-number-preserved : goal.loop-number-preserved
loop-number-preserved g c =
    let i = c.loop-number.invariant in
    let number = c.datagram.ensures.1 in
    let next = ap (λ l. number_after (last l)) c.if-not-push.ensures.pushed ∙ ap number_after (last_more c.loop-number.feeder.pushed c.datagram.result) in
    record { queue = c.push.ensures.queue ∙ i.queue; next = omega arith }

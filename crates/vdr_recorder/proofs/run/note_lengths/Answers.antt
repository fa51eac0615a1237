use Rattle.std.proofs.Common.{subst, ◌≡◌}
use Rattle.vdr_terms.specs.declared.datagram.Verdict.TheVariants.{Yes}
use Rattle.vdr_terms.specs.Datagrams.{verdict}
use Rattle.vdr_core.specs.Taken.{Captured}
use Rattle.vdr_recorder.proofs.Running.{short_more}
use Rattle.vdr_recorder.proofs.run.note_lengths.Goals as goal

pub loop-item-preserved : goal.loop-item-preserved
loop-item-preserved c = short_more c.loop-item.item-index c.args.items.now c.item-item.result c.loop-item-test.true c.item-item.is c.loop-item.invariant
    (subst (λ (x : Captured). verdict x.bytes ≡ Yes) c.item.view_is c.item.invariant.recordable)

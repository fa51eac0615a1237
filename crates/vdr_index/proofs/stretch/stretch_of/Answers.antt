use Rattle.std.proofs.Common.{List, take, subst}
use Rattle.vdr_terms.specs.Records.{Record}
use Rattle.vdr_index.specs.Stretches.{ComesTo}
use Rattle.vdr_index.proofs.StretchLemmas.{taken_more}
use Rattle.vdr_index.proofs.stretch.stretch_of.Goals as goal

pub loop-item-preserved : goal.loop-item-preserved
loop-item-preserved c =
    subst (λ (xs : List Record). ComesTo xs c.with-stretch.result) (taken_more (take 1 c.args.records.now) _ _ _ c.loop-item-test.true c.item-item.is)
    (c.with-stretch.ensures _ _ c.loop-item.invariant c.mark_of-in-loop-item.ensures c.summary_of-in-loop-item.ensures)

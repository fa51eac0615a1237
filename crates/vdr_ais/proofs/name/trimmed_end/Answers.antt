use Rattle.std.proofs.Common.{◌∙◌}
use Rattle.vdr_ais.proofs.Names.{end_other, end_space}
use Rattle.vdr_ais.proofs.name.trimmed_end.Goals as goal
use Rattle.vdr_ais.proofs.name.trimmed_end.Goals.{then-letters-i-ne32, else-letters-i-ne32}

pub loop-i-preserved : goal.loop-i-preserved
loop-i-preserved c = elim c.if-letters-i-ne32.branch [
  | then-letters-i-ne32 w ↦ w.end-is ∙ end_other c.args.letters.now c.loop-i.i c.loop-i-test.true w.if-letters-i-ne32.true
  | else-letters-i-ne32 w ↦ w.end-is ∙ c.loop-i.invariant ∙ end_space c.args.letters.now c.loop-i.i c.loop-i-test.true w.if-letters-i-ne32.false
]

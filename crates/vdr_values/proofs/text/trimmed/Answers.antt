use Rattle.std.proofs.Common.{◌∙◌}
use Rattle.vdr_values.proofs.Trims.{trimmed-shorter, trimmed-shown}
use Rattle.vdr_values.proofs.text.trimmed.Goals as goal

pub returns-then-last-ne48 : goal.returns-then-last-ne48
returns-then-last-ne48 c = trimmed-shown c.loop-shown.shown.now c.in-len1-up.len_at_least c.if-last-ne48.true ∙ c.loop-shown.invariant

pub loop-shown-preserved : goal.loop-shown-preserved
loop-shown-preserved c = trimmed-shorter c.loop-shown.shown.now c.in-len1-up.len_at_least c.if-last-ne48.false ∙ c.loop-shown.invariant

use Rattle.std.proofs.Common.{◌∙◌, inr, refl, sym}
use Rattle.vdr_rescue.proofs.judging.judge.Goals as goal

pub returns-then-strays-clause-judges : goal.returns-then-strays-clause-judges
returns-then-strays-clause-judges c = inr (c.in_default.ensures.judges, sym c.strays.ensures ∙ c.if-strays.true, refl)

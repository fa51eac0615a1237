use Rattle.vdr_control.proofs.IdLemmas.{if_none}
use Rattle.vdr_control.proofs.export.asked_by.Goals as goal

pub returns-in_err-medium-clause-none : goal.returns-in_err-medium-clause-none
returns-in_err-medium-clause-none c = if_none c.from_residual.result (λ asked name since until some spells. c.in_err-medium.ensures.none asked since until spells.0 spells.2 spells.3)

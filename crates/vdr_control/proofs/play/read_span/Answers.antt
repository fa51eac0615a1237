use Rattle.vdr_control.proofs.IdLemmas.{if_none}
use Rattle.vdr_control.proofs.play.read_span.Goals as goal

pub returns-in_err-from-clause-none : goal.returns-in_err-from-clause-none
returns-in_err-from-clause-none c = if_none c.from_residual-in_err-from.result (λ asked since until is from to. c.in_err-from.ensures.none since from)

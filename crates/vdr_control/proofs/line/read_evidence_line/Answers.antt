use Rattle.std.proofs.Common.{decimal}
use Rattle.vdr_control.proofs.IdLemmas.{if_none}
use Rattle.vdr_control.proofs.line.read_evidence_line.Goals as goal

pub returns-in_err-digits-clause-none : goal.returns-in_err-digits-clause-none
returns-in_err-digits-clause-none c = if_none c.from_residual.result (λ id asks. c.in_err-digits.ensures.none (decimal id) asks.2)

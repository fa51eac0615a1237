use Rattle.std.proofs.lemmas.Result.{err_from_is_err_and}
use Rattle.vdr_terms.proofs.Results.{same_err}
use Rattle.vdr_incident.proofs.table.Table.read.Goals as goal

pub returns-in_err-saves-clause-damaged : goal.returns-in_err-saves-clause-damaged
returns-in_err-saves-clause-damaged g c =
    let p = err_from_is_err_and c.from_residual.result c.from_residual.ensures.1 in
    rw (p.1, p.2) (λ m offset e. c.in_err-saves.ensures.damaged m offset (same_err _ _ e))

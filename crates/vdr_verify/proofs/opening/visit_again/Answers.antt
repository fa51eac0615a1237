use Rattle.std.proofs.Common.{Err, ap, sym, ◌∙◌}
use Rattle.std.proofs.lemmas.Result.{err_from_is_err_and}
use Rattle.vdr_visit.proofs.Printing.{not_asked}
use Rattle.vdr_verify.proofs.opening.visit_again.Goals as goal

pub returns-in_err-accept-clause-handed : goal.returns-in_err-accept-clause-handed
returns-in_err-accept-clause-handed g c first had =
    let p = err_from_is_err_and c.from_residual.result c.from_residual.ensures.1 in
    not_asked _ _ _ _ _ _ had _ _ p.0 c.accept.result c.from_residual.result c.accept.ensures (c.in_err-accept.was ∙ ap Err (sym p.2)) p.1

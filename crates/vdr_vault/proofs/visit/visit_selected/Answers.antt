use Rattle.std.proofs.Common.{◌∙◌, Err, ap, sym}
use Rattle.std.proofs.lemmas.Result.{err_from_is_err_and}
use Rattle.vdr_vault.proofs.Printing.{not_asked, not_begun, undamaged_so}
use Rattle.vdr_vault.proofs.visit.visit_selected.Goals as goal

pub returns-in_err-accept-clause-visited : goal.returns-in_err-accept-clause-visited
returns-in_err-accept-clause-visited g c first had =
    let p = err_from_is_err_and c.from_residual.result c.from_residual.ensures.1 in
    not_asked _ _ _ _ _ _ _ _ had _ _ p.0 c.accept.result c.from_residual.result c.accept.ensures (c.in_err-accept.was ∙ ap Err (sym p.2)) p.1

pub returns-in_err-accept-clause-damage : goal.returns-in_err-accept-clause-damage
returns-in_err-accept-clause-damage g c =
    let p = err_from_is_err_and c.from_residual.result c.from_residual.ensures.1 in
    undamaged_so _ _ _ _ _ p.0 c.accept.result c.from_residual.result c.accept.ensures (c.in_err-accept.was ∙ ap Err (sym p.2)) p.1

pub returns-then-failed-clause-damage : goal.returns-then-failed-clause-damage
returns-then-failed-clause-damage g c = not_begun _ _ _

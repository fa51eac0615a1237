use Rattle.std.proofs.Common.{[], sym, subst}
use Rattle.std.proofs.KnownBytes.{Appends-trans}
use Rattle.std.proofs.lemmas.Result.{err_from_is_err_and}
use Rattle.std.specs.Io.KnownBytes.{Appends}
use Rattle.vdr_compare.specs.Tallies.{left_text}
use Rattle.vdr_compare.proofs.Going.{last_front, tells_failed}
use Rattle.vdr_compare.proofs.comparing.compare_sides.Goals as goal

pub returns-in_err-tally-clause-tells : goal.returns-in_err-tally-clause-tells
returns-in_err-tally-clause-tells g c told ahead a =
    let p = err_from_is_err_and c.from_residual.result c.from_residual.ensures.1 in
    tells_failed c.args.tally ahead _ _ c.from_residual.result p.0 p.1 (c.in_err-tally.ensures.tallies told ahead a).front

pub returns-in_err-finish-clause-tells : goal.returns-in_err-finish-clause-tells
returns-in_err-finish-clause-tells g c told ahead a =
    let p = err_from_is_err_and c.from_residual-in_err-finish.result c.from_residual-in_err-finish.ensures.1 in
    let d = (c.in_ok-tally.ensures.tallies told ahead a).done in
    tells_failed c.args.tally ahead _ _ c.from_residual-in_err-finish.result p.0 p.1 (last_front _ _ _ d.0 (left_text c.in_ok-tally.tally []) _ d.2 d.1 c.finish.ensures.front)

pub returns-clause-tells : goal.returns-clause-tells
returns-clause-tells g c told ahead a =
    let d = (c.in_ok-tally.ensures.tallies told ahead a).done in (
      subst (Appends _ _) (sym d.2) (Appends-trans _ _ _ d.0 (left_text c.in_ok-tally.tally []) d.1 c.in_ok-finish.ensures.all),
      sym d.3,
    )

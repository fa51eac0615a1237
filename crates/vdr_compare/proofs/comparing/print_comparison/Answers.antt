use Rattle.std.proofs.Common.{◌∙◌, None, sym}
use Rattle.std.proofs.lemmas.Result.{err_from_is_err_and}
use Rattle.vdr_outside.specs.Disk.{content}
use Rattle.vdr_compare.specs.Standings.{standings}
use Rattle.vdr_compare.proofs.Causes.{cause_behind}
use Rattle.vdr_compare.proofs.Going.{ahead_on, compares_behind, compares_failed, front_of_condition, nothing_printed}
use Rattle.vdr_compare.proofs.comparing.print_comparison.Goals as goal

pub returns-in_err-first-clause-compares : goal.returns-in_err-first-clause-compares
returns-in_err-first-clause-compares g c told rs ss first second =
    let p = err_from_is_err_and c.from_residual.result c.from_residual.ensures.1 in
    compares_failed c.args.condition.now c.args.windows (standings rs ss) _ _ c.from_residual.result p.0 p.1 (nothing_printed _ _)

pub returns-in_err-print-clause-compares : goal.returns-in_err-print-clause-compares
returns-in_err-print-clause-compares g c told rs ss first second =
    let p = err_from_is_err_and c.from_residual-in_err-print.result c.from_residual-in_err-print.ensures.1 in
    compares_failed c.args.condition.now c.args.windows (standings rs ss) _ _ c.from_residual-in_err-print.result p.0 p.1
    (front_of_condition c.args.condition.now c.args.windows (standings rs ss) _ _ c.print.ensures.front)

pub returns-clause-compares : goal.returns-clause-compares
returns-clause-compares g c told rs ss first second =
    let fronts = c.in_ok-first.ensures in
    compares_behind c.args.condition.now c.args.windows (standings rs ss) c.new-tally.result _ _ _ c.compare_sides.result
    (c.new-tally.ensures ∙ (λ i. record { windows = c.args.windows; waiting = None; same = None; verdict = c.verdict.ensures i })) c.in_ok-print.ensures.all
    (c.compare_sides.ensures.tells told (standings rs ss)
    (ahead_on _ _ _ _ c.in_ok-first.first c.in_ok-first.second (standings rs ss)
    (λ j. content (sym (fronts.unchanged.reads told) j) ((sym fronts.areas.0 j).medium)) (λ j. content (sym (fronts.unchanged.reads told) j) ((sym fronts.areas.1 j).medium))
    (fronts.gives told rs ss first second)))

pub returns-clause-cause : goal.returns-clause-cause
returns-clause-cause g c = cause_behind _ _ _ _ _ _ c.compare_sides.result c.both_fronts.ensures.cause.later c.print.ensures.cause.later c.compare_sides.ensures.cause

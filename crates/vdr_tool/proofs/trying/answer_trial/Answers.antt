use Rattle.std.proofs.Common.{refl}
use Rattle.std.proofs.lemmas.Result.{err_from_is_err_and}
use Rattle.vdr_tool.proofs.TrialEnds.{printed_as, stopped_trial}
use Rattle.vdr_tool.proofs.trying.answer_trial.Goals as goal

pub returns-in_err-tally-clause-owed : goal.returns-in_err-tally-clause-owed
returns-in_err-tally-clause-owed g c =
    let p = err_from_is_err_and c.from_residual.result c.from_residual.ensures.1 in
    rw (p.1, p.2)
    (stopped_trial c.args.seed c.args.count _ _ c.in_err-tally.field-0.0 c.in_err-tally.ensures.stops c.in_err-tally.ensures.ends refl)

pub returns-clause-owed : goal.returns-clause-owed
returns-clause-owed g c =
    printed_as c.args.seed c.args.count _ _ _ c.in_ok-tally.tally c.print_tally.ensures.done c.in_ok-tally.ensures.ends c.in_ok-tally.ensures.tally c.print_tally.ensures.printed c.print_tally.ensures.output

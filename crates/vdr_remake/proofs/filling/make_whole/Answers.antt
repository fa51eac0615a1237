use Rattle.std.proofs.Common.{◌∙◌}
use Rattle.std.proofs.lemmas.Result.{err_from_is_err_and}
use Rattle.vdr_terms.proofs.Results.{same_err}
use Rattle.vdr_media.proofs.Opening.{behind_meanwhile, opening_meanwhile}
use Rattle.vdr_remake.specs.Remade.{IsFilledMedium}
use Rattle.vdr_remake.proofs.Causes.{rose_later, rose_passed, rose_second}
use Rattle.vdr_remake.proofs.Shutting.{opened_done, opened_moments, still_closed}
use Rattle.vdr_remake.proofs.filling.make_whole.Goals as goal

pub returns-in_err-fill-clause-meanwhile : goal.returns-in_err-fill-clause-meanwhile
returns-in_err-fill-clause-meanwhile g c = behind_meanwhile _ _ _ c.fill.ensures.writes

pub returns-in_err-fill-clause-moments : goal.returns-in_err-fill-clause-moments
returns-in_err-fill-clause-moments g c placed told h closed = still_closed _ _ _ _ c.fill.ensures.writes closed

pub returns-in_err-fill-clause-others : goal.returns-in_err-fill-clause-others
returns-in_err-fill-clause-others g c told k ne = c.fill.ensures.writes.others told k ne

pub returns-in_err-fill-clause-damaged : goal.returns-in_err-fill-clause-damaged
returns-in_err-fill-clause-damaged g c =
    let p = err_from_is_err_and c.from_residual.result c.from_residual.ensures.1 in
    rw (p.1, p.2) (λ m offset e. c.in_err-fill.ensures.damaged m offset (same_err _ _ e))

pub returns-in_err-fill-clause-cause : goal.returns-in_err-fill-clause-cause
returns-in_err-fill-clause-cause g c =
    let p = err_from_is_err_and c.from_residual.result c.from_residual.ensures.1 in
    rw (p.1, p.2) (rose_passed _ _ _ _ _ (λ e. same_err _ _ e) c.in_err-fill.ensures.cause)

pub returns-in_err-write_through-clause-meanwhile : goal.returns-in_err-write_through-clause-meanwhile
returns-in_err-write_through-clause-meanwhile g c = opening_meanwhile _ _ _ c.fill.ensures.writes _ c.write_through.ensures.moments

pub returns-in_err-write_through-clause-moments : goal.returns-in_err-write_through-clause-moments
returns-in_err-write_through-clause-moments g c placed told h closed =
    opened_moments _ (IsFilledMedium c.args.to.medium c.args.to.slots c.args.config.now c.args.text.now placed) _ _ c.fill.ensures.writes _ c.write_through.ensures.moments (c.in_ok-fill.ensures.staged placed told h) closed

pub returns-in_err-write_through-clause-others : goal.returns-in_err-write_through-clause-others
returns-in_err-write_through-clause-others g c told k ne = c.write_through.ensures.writes.medium.others told k ne ∙ c.fill.ensures.writes.others told k ne

pub returns-in_err-write_through-clause-cause : goal.returns-in_err-write_through-clause-cause
returns-in_err-write_through-clause-cause g c =
    rose_later _ _ _ _ _ c.fill.ensures.cause.later (rose_second _ _ c.in_err-write_through.ensures.writes.medium.cause.later _ _ _ (λ is. c.in_err-write_through.ensures.writes.medium.cause.failed))

pub returns-clause-meanwhile : goal.returns-clause-meanwhile
returns-clause-meanwhile g c = opening_meanwhile _ _ _ c.fill.ensures.writes _ c.write_through.ensures.moments

pub returns-clause-moments : goal.returns-clause-moments
returns-clause-moments g c placed told h closed =
    opened_moments _ (IsFilledMedium c.args.to.medium c.args.to.slots c.args.config.now c.args.text.now placed) _ _ c.fill.ensures.writes _ c.write_through.ensures.moments (c.in_ok-fill.ensures.staged placed told h) closed

pub returns-clause-done : goal.returns-clause-done
returns-clause-done g c placed told h =
    opened_done _ (IsFilledMedium c.args.to.medium c.args.to.slots c.args.config.now c.args.text.now placed) _ _ c.fill.ensures.writes _ c.write_through.ensures.moments (c.in_ok-fill.ensures.staged placed told h) c.in_ok-write_through.ensures.writes.durable c.in_ok-write_through.ensures.reads

pub returns-clause-others : goal.returns-clause-others
returns-clause-others g c told k ne = c.write_through.ensures.writes.medium.others told k ne ∙ c.fill.ensures.writes.others told k ne

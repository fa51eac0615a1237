use Rattle.std.proofs.Common.{◌∙◌}
use Rattle.vdr_terms.proofs.Results.{on_ok_both}
use Rattle.vdr_media.proofs.Opening.{behind_closed, opening_meanwhile, opening_moments, opening_done}
use Rattle.vdr_media.proofs.Causes.{cause_after}
use Rattle.vdr_media.proofs.laying.make_empty.Goals as goal

pub returns-in_err-lay_out-clause-moments : goal.returns-in_err-lay_out-clause-moments
returns-in_err-lay_out-clause-moments g c closed = behind_closed _ _ _ c.lay_out.ensures.writes _ _ closed

pub returns-clause-meanwhile : goal.returns-clause-meanwhile
returns-clause-meanwhile g c = opening_meanwhile _ _ _ c.lay_out.ensures.writes _ c.write_through.ensures.moments

pub returns-clause-moments : goal.returns-clause-moments
returns-clause-moments g c closed = opening_moments _ _ _ c.lay_out.ensures.writes _ c.write_through.ensures.moments _ _ c.in_ok-lay_out.ensures.laid_out closed

pub returns-clause-done : goal.returns-clause-done
returns-clause-done g c =
    on_ok_both c.write_through.result
    (λ durable reads. opening_done _ _ _ c.lay_out.ensures.writes _ c.write_through.ensures.moments _ _ c.in_ok-lay_out.ensures.laid_out durable reads)
    c.write_through.ensures.writes.durable c.write_through.ensures.reads

pub returns-clause-others : goal.returns-clause-others
returns-clause-others g c told k ne = c.write_through.ensures.writes.medium.others told k ne ∙ c.lay_out.ensures.writes.others told k ne

pub returns-clause-cause : goal.returns-clause-cause
returns-clause-cause g c = cause_after _ _ _ _ _ c.lay_out.ensures.cause.later c.write_through.ensures.writes.medium.cause

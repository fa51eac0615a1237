use Rattle.std.proofs.Common.{refl}
use Rattle.std.proofs.lemmas.Result.{err_from_is_err_and}
use Rattle.vdr_live.proofs.Completeness.{end_at_output, records_so, refused_not_output, tells_end, tells_refused}
use Rattle.vdr_live.proofs.recording.answer_record.Goals as goal

pub returns-in_err-end-clause-owed : goal.returns-in_err-end-clause-owed
returns-in_err-end-clause-owed g c =
    let refused = c.in_err-end.field-0.0 in
    let p = err_from_is_err_and c.from_residual.result c.from_residual.ensures.1 in
    rw (p.1, p.2)
    (records_so _ _ _ g.W.Watch.hears _ _ c.record_ports.result (c.law_of_openings.ensures (g.M.Media.disk c.args.world.now.media).reads)
    (tells_refused c.record_ports.result refused _ _ c.in_err-end.was refl) c.record_ports.ensures.ends
    (λ is. absurd (refused_not_output refused is)))

pub returns-clause-owed : goal.returns-clause-owed
returns-clause-owed g c =
    let end = c.in_ok-end.end in
    let prints = c.print_session.ensures.printed in
    records_so _ _ _ g.W.Watch.hears _ _ c.record_ports.result (c.law_of_openings.ensures (g.M.Media.disk c.args.world.now.media).reads)
    (tells_end c.record_ports.result end _ _ _ c.in_ok-end.was prints) c.record_ports.ensures.ends
    (λ is. end_at_output end.outcome _ _ _ _ prints is)

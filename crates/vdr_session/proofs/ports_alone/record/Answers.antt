use Rattle.vdr_session.proofs.Sessions.{session_alone}
use Rattle.vdr_session.proofs.ports_alone.record.Goals as goal

pub returns-clause-session : goal.returns-clause-session
returns-clause-session g c = session_alone g.P.Port c.args.turns c.args.recorder.vault.config.queue c.args.recorder.vault.config.groups c.args.lanes.now c.record_at_desks.new.lanes c.args.recorder
    (g.M.Media.disk c.args.media.now) (g.M.Media.disk c.record_at_desks.new.media) c.record_at_desks.result _ c.record_at_desks.ensures.session

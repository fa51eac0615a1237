use Rattle.std.proofs.Common.{◌∙◌}
use Rattle.vdr_core.specs.RunStates.{state_left}
use Rattle.vdr_reply.proofs.Answered.{health_answer}
use Rattle.vdr_reply.proofs.health.answer_health.Goals as goal

pub returns-clause-answered : goal.returns-clause-answered
returns-clause-answered g c = λ opening events t0 h knows.
    let works = h.works c.requires.works in
    health_answer opening events t0 c.args.recorder.now (g.M.Media.disk c.args.media.now) h c.args.recorder.now.vault.config.channels _ c.told.result g.W.Watch.hears (g.W.Watch.seen c.args.watch.now) _ c.requires.works
    c.gauge-gauged.result (c.look_watched.ensures.told opening events t0 h)
    (c.told.ensures (state_left opening events) knows (λ is. works.makes (works.open_is ∙ is)))

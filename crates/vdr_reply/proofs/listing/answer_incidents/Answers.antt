use Rattle.std.proofs.Common.{◌++◌, refl}
use Rattle.vdr_teller.specs.Incidents.{incidents_text}
use Rattle.vdr_reply.specs.Texts.{done_line}
use Rattle.vdr_reply.proofs.Answered.{incidents_answer}
use Rattle.vdr_reply.proofs.listing.answer_incidents.Goals as goal

pub returns-clause-answered : goal.returns-clause-answered
returns-clause-answered g c = λ opening events t0 h.
    incidents_answer opening events t0 c.args.recorder.now (g.M.Media.disk c.args.media.now) h c.args.recorder.now.vault.config.channels _ c.list.result g.W.Watch.hears (g.W.Watch.seen c.args.watch.now) _ c.requires.works
    (done_line ++ incidents_text c.args.recorder.now.vault.table) (c.look_watched.ensures.told opening events t0 h) refl c.list.ensures

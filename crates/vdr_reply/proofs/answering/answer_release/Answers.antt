use Rattle.std.proofs.Common.{inr}
use Rattle.vdr_reply.proofs.Answered.{release_answer}
use Rattle.vdr_reply.proofs.answering.answer_release.Goals as goal

pub returns-clause-answered : goal.returns-clause-answered
returns-clause-answered g c = λ opening events t0 told h.
    let e = c.release_watched.ensures in
    let works = c.requires.works in
    release_answer opening events t0 c.args.recorder.now (g.M.Media.disk c.args.media.now) h c.args.recorder.now.vault.config.channels _ c.of_release.result g.W.Watch.hears (g.W.Watch.seen c.args.watch.now) _ works c.release_watched.new.self (g.M.Media.disk c.release_watched.new.media)
    c.args.id c.release_watched.result c.of_release.ensures
    (λ saved some. e.event.released opening events t0 saved told works some h)
    (λ none. e.event.looked opening events t0 (inr none) h)
    (λ none. let same = e.refuses.refused works none in (same.0, same.1))
    (λ is. (e.refuses.reason is).1)
    e.failing.fails e.failing.works

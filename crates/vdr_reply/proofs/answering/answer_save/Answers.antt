use Rattle.std.proofs.Common.{inr}
use Rattle.vdr_reply.proofs.Answered.{save_answer}
use Rattle.vdr_reply.proofs.answering.answer_save.Goals as goal

pub returns-clause-answered : goal.returns-clause-answered
returns-clause-answered g c = λ opening events t0 told h.
    let e = c.save_watched.ensures in
    let works = c.requires.works in
    save_answer opening events t0 c.args.recorder.now (g.M.Media.disk c.args.media.now) h c.args.recorder.now.vault.config.channels _ c.of_save.result g.W.Watch.hears (g.W.Watch.seen c.args.watch.now) _ works c.save_watched.new.self (g.M.Media.disk c.save_watched.new.media)
    c.args.label.now c.save_watched.result c.of_save.ensures
    (λ none undamaged. e.event.saved opening events t0 told works none undamaged h)
    (λ refused some. e.event.looked opening events t0 refused (inr some) h)
    (λ refused some. let same = e.refuses.refused refused works some in (same.0, same.1))
    (λ refused is which. (e.refuses.reason refused is which).1)
    (λ m offset. e.damage.undamaged opening events (h.works works).standing.placed m offset told (h.works works).standing.stands)
    e.failing.fails e.failing.works

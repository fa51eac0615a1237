use Rattle.std.proofs.Common.{ap, sym, ◌∙◌, length}
use Rattle.vdr_terms.specs.Queries.{Query}
use Rattle.vdr_entry.specs.Queries.{asked}
use Rattle.vdr_visit.specs.Refusals.{lacks_channel, lacks_incident}
use Rattle.vdr_vault.proofs.Playing.{stands_to_read}
use Rattle.vdr_vault.proofs.Reading.{reads_keep_failed}
use Rattle.vdr_recorder.proofs.Answering.{in_this_call}
use Rattle.vdr_reply.proofs.Told.{has_so, lacks_so, unnamed_answer}
use Rattle.vdr_reply.proofs.Plays.{absent_answer, asked_channel, asks_ok, begun_answer, whole_answer}
use Rattle.vdr_reply.proofs.playing.answer_play.Goals as goal

pub returns-in_default-clause-answered : goal.returns-in_default-clause-answered
returns-in_default-clause-answered g c = λ opening events t0 told h.
    whole_answer _ _ opening events t0 _ _ _ _ _ _ g.W.Watch.hears _ _
    (unnamed_answer opening events t0 c.args.recorder.now (g.M.Media.disk c.args.media.now) h _ c.of_line.result g.W.Watch.hears (g.W.Watch.seen c.args.watch.now) _ c.requires.works c.args.wanted.medium c.args.wanted.name.now c.args.wanted.from c.args.wanted.to
    (c.look_watched.ensures.told opening events t0 h) c.in_default.ensures.none c.of_line.ensures)

pub returns-then-not-is_there-clause-answered : goal.returns-then-not-is_there-clause-answered
returns-then-not-is_there-clause-answered g c = λ opening events t0 told h.
    let channels = c.args.recorder.now.vault.config.channels in
    let table = c.args.recorder.now.vault.table in
    let q = asked c.in-Some.query in
    let found = c.in-Some.ensures.found in
    absent_answer opening events t0 c.args.recorder.now (g.M.Media.disk c.args.media.now) h _ c.of_line-then-not-is_there.result g.W.Watch.hears (g.W.Watch.seen c.args.watch.now) _ c.requires.works
    c.args.wanted.medium c.args.wanted.name.now c.args.wanted.from c.args.wanted.to (c.look_watched-then-not-is_there.ensures.told opening events t0 h) found.1
    (ap (λ (q : Query). lacks_incident table q.medium) (sym found.0)
    ∙ lacks_so (lacks_channel (length channels) q.channel) (lacks_incident table q.medium) c.is_there.result
    (asked_channel channels c.args.wanted.medium c.args.wanted.name.now c.args.wanted.from c.args.wanted.to q found.0) c.is_there.ensures c.if-not-is_there.true)
    c.of_line-then-not-is_there.ensures

pub returns-clause-answered : goal.returns-clause-answered
returns-clause-answered g c = λ opening events t0 told h.
    let channels = c.args.recorder.now.vault.config.channels in
    let table = c.args.recorder.now.vault.table in
    let q = asked c.in-Some.query in
    let found = c.in-Some.ensures.found in
    let e = c.begin_play_watched.ensures in
    let works = c.requires.works in
    let standing = (h.works works).standing in
    let readable = stands_to_read opening events c.args.recorder.now.vault standing.placed (g.M.Media.disk c.args.media.now) standing.stands in
    begun_answer opening events t0 c.args.recorder.now (g.M.Media.disk c.args.media.now) h _ c.of_begun.result.0 g.W.Watch.hears (g.W.Watch.seen c.args.watch.now) _ works
    c.args.wanted.medium c.args.wanted.name.now c.args.wanted.from c.args.wanted.to
    c.begin_play_watched.new.self (g.M.Media.disk c.begin_play_watched.new.media) (e.told opening events t0 h)
    (reads_keep_failed _ c.args.recorder.now.vault c.begin_play_watched.new.self.vault e.looked.read.vault ∙ works)
    found.1
    (ap (λ (q : Query). lacks_incident table q.medium) (sym found.0)
    ∙ has_so (lacks_channel (length channels) q.channel) (lacks_incident table q.medium) c.is_there.result c.is_there.ensures c.if-not-is_there.false)
    c.begin_play_watched.result c.of_begun.result.1 c.of_begun.ensures (asks_ok c.begin_play_watched.result c.in-Some.query _ found.0 e.asks)
    (e.begins opening events standing.placed told readable) (λ m offset is. e.undamaged opening events standing.placed m offset told readable is)
    (λ fault. in_this_call c.args.recorder.now.vault.failed _ works (e.looked.cause.in_all fault))

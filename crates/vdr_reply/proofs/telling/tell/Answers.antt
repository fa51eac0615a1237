use Rattle.std.proofs.Common.{◌++◌, length, List, ℕ, ap, ◌∙◌}
use Rattle.std.specs.Prelude.{sum}
use Rattle.vdr_entry.specs.Queries.{asked}
use Rattle.vdr_outside.specs.Causes.{Rose}
use Rattle.vdr_visit.specs.Prints.{whole_text}
use Rattle.vdr_visit.specs.Refusals.{lacks_channel, lacks_incident}
use Rattle.vdr_vault.proofs.Reading.{reads_keep_failed}
use Rattle.vdr_vault.proofs.Playing.{stands_to_read}
use Rattle.vdr_recorder.proofs.Answering.{in_this_call}
use Rattle.vdr_reply.specs.Texts.{with_end}
use Rattle.vdr_reply.proofs.Answered.{page_is}
use Rattle.vdr_reply.proofs.Told.{channel_is, has_so, lacks_so, no_memory_answer, not_there_answer, told_answer}
use Rattle.vdr_reply.proofs.telling.tell.Goals as goal

pub returns-then-not-is_there-clause-answered : goal.returns-then-not-is_there-clause-answered
returns-then-not-is_there-clause-answered g c = λ first order opening events t0 had asks told h.
    let channels = c.args.recorder.now.vault.config.channels in
    let q = asked c.args.query.now in
    not_there_answer opening events t0 c.args.recorder.now (g.M.Media.disk c.args.media.now) h _ c.of_line.result g.W.Watch.hears (g.W.Watch.seen c.args.watch.now) _ c.requires.works order q _ asks
    (c.look_watched.ensures.told opening events t0 h)
    (lacks_so (lacks_channel (length channels) q.channel) (lacks_incident c.args.recorder.now.vault.table q.medium) c.is_there.result (channel_is channels opening events q _ order asks) c.is_there.ensures c.if-not-is_there.true)
    c.of_line.ensures

pub returns-in_default-clause-answered : goal.returns-in_default-clause-answered
returns-in_default-clause-answered g c = λ first order opening events t0 had asks told h.
    let channels = c.args.recorder.now.vault.config.channels in
    let q = asked c.args.query.now in
    no_memory_answer opening events t0 c.args.recorder.now (g.M.Media.disk c.args.media.now) h _ c.of_line-in_default.result g.W.Watch.hears (g.W.Watch.seen c.args.watch.now) _ c.requires.works order q _ asks
    (c.look_watched-in_default.ensures.told opening events t0 h)
    (has_so (lacks_channel (length channels) q.channel) (lacks_incident c.args.recorder.now.vault.table q.medium) c.is_there.result c.is_there.ensures c.if-not-is_there.false)
    c.of_line-in_default.ensures

pub returns-clause-answered : goal.returns-clause-answered
returns-clause-answered g c = λ first order opening events t0 had asks told h.
    let e = c.visit_watched-ended.ensures in
    let works = c.requires.works in
    let channels = c.args.recorder.now.vault.config.channels in
    let q = asked c.args.query.now in
    let whole = whole_text (g.V.Visitor.line first) (g.V.Visitor.last first) in
    let visited = e.visited first had in
    let readable = stands_to_read opening events c.args.recorder.now.vault (h.works works).standing.placed (g.M.Media.disk c.args.media.now) (h.works works).standing.stands in
    told_answer opening events t0 c.args.recorder.now (g.M.Media.disk c.args.media.now) h (Rose (sum (g.M.Media.faults c.args.media.now)) (sum (g.M.Media.faults c.visit_watched-ended.new.media))) c.of_told.result g.W.Watch.hears (g.W.Watch.seen c.args.watch.now) _ works order q whole asks
    with_end c.visit_watched-ended.new.self (g.M.Media.disk c.visit_watched-ended.new.media) c.visit_watched-ended.result c.in-Ok.page.bytes.items c.visit_watched-ended.new.out.bytes.items
    (λ records. ap (λ (l : List ℕ). with_end (l ++ whole records)) c.in-Ok.ensures.text ∙ page_is (whole records))
    c.of_told.ensures
    (e.told opening events t0 h)
    (reads_keep_failed _ c.args.recorder.now.vault c.visit_watched-ended.new.self.vault e.looked.read.vault ∙ works)
    (has_so (lacks_channel (length channels) q.channel) (lacks_incident c.args.recorder.now.vault.table q.medium) c.is_there.result c.is_there.ensures c.if-not-is_there.false)
    e.accepted
    visited
    (visited.are opening events (h.works works).standing.placed told readable)
    (λ fault. in_this_call c.args.recorder.now.vault.failed _ works (e.looked.cause.in_all fault))

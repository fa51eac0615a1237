use Rattle.std.proofs.Common.{◌≡◌, ◌∙◌, false, ℕ, List, length, Err, refl, ap, subst}
use Rattle.std.specs.Prelude.{sum}
use Rattle.vdr_entry.specs.Queries.{asked}
use Rattle.vdr_outside.specs.Causes.{Rose}
use Rattle.vdr_outside.proofs.Counts.{sum_rose}
use Rattle.vdr_terms.specs.Queries.{Query}
use Rattle.vdr_visit.specs.Refusals.{lacks_channel, lacks_incident}
use Rattle.vdr_base64.specs.Lines.{lines_of}
use Rattle.vdr_control.specs.Orders.PlainOrder.{Evidence as EvidenceOrder}
use Rattle.vdr_evidence.specs.Files.{evidence_bytes, last_lines, line_at}
use Rattle.vdr_reply.specs.Orders.{evidence_lines}
use Rattle.vdr_reply.proofs.Before.{answered_before, elsewhere_before, has_text, heading_now, order_cause, part_answer, read_cause, recorded_still, rings_still, room_before, rose_since, watched_still}
use Rattle.vdr_reply.proofs.Told.{channel_is, has_so, lacks_so, not_there_answer}
use Rattle.vdr_reply.proofs.evidencing.answer_evidence.Goals as goal

pub returns-then-not-is_there-clause-answered : goal.returns-then-not-is_there-clause-answered
returns-then-not-is_there-clause-answered g c = λ opening events t0 told h.
    let channels = c.args.recorder.now.vault.config.channels in
    let q = asked c.save_query-query.result in
    let order = EvidenceOrder c.args.id in
    not_there_answer opening events t0 c.args.recorder.now (g.M.Media.disk c.args.media.now) h _ c.of_line.result g.W.Watch.hears (g.W.Watch.seen c.args.watch.now) _ c.requires.works order q
    (evidence_lines opening events c.args.id) (c.save_query-query.ensures, λ records. refl)
    (c.look_watched.ensures.told opening events t0 h)
    (lacks_so (lacks_channel (length channels) q.channel) (lacks_incident c.args.recorder.now.vault.table q.medium) c.is_there.result
    (channel_is channels opening events q (evidence_lines opening events c.args.id) order (c.save_query-query.ensures, λ records. refl)) c.is_there.ensures c.if-not-is_there.true)
    c.of_line.ensures

pub printer_of-requires : goal.printer_of-requires
printer_of-requires g c = room_before c.args.recorder.now.vault (g.M.Media.disk c.args.media.now).sizes c.requires.rings

pub tell-requires-clause-watched : goal.tell-requires-clause-watched
tell-requires-clause-watched g c = watched_still _ _ c.printer_of.ensures.unchanged (g.W.Watch.seen c.args.watch.now) c.args.recorder.now c.requires.watched

pub look_watched-requires-in-Err : goal.look_watched-requires-in-Err
look_watched-requires-in-Err g c = record { watched = watched_still _ _ c.printer_of.ensures.unchanged (g.W.Watch.seen c.args.watch.now) c.args.recorder.now c.requires.watched }

pub returns-in-Ok-clause-answered : goal.returns-in-Ok-clause-answered
returns-in-Ok-clause-answered g c = λ opening events t0 told h.
    let e = c.printer_of.ensures in
    let p = c.in-Ok.printer in
    let made = c.in-Ok.ensures in
    let text = made.heading told in
    let heading = heading_now opening events t0 c.args.recorder.now (g.M.Media.disk c.args.media.now) h c.requires.works told c.args.id text.0 p.visitor.heading.items text.1 text.2 text.3 in
    answered_before (g.M.Media.disk c.args.media.now) (g.M.Media.disk c.printer_of.new.media) e.unchanged c.args.recorder.now.vault.config.channels
    (Rose (sum (g.M.Media.faults c.printer_of.new.media)) (sum (g.M.Media.faults c.tell.new.media))) (Rose (sum (g.M.Media.faults c.args.media.now)) (sum (g.M.Media.faults c.tell.new.media)))
    opening events t0 c.args.id c.tell.result c.args.recorder.now c.tell.new.recorder (g.M.Media.disk c.tell.new.media) (g.W.Watch.seen c.args.watch.now) (g.W.Watch.seen c.tell.new.watch)
    (λ rose. rose_since (g.M.Media.faults c.args.media.now) (g.M.Media.faults c.printer_of.new.media) (g.M.Media.faults c.tell.new.media) e.cause.later rose)
    (c.tell.ensures.answered p (EvidenceOrder c.args.id) opening events t0 ((made.new.0, made.new.0), made.new.1) (
      c.save_query-query.ensures,
      λ records. c.law_of_printing.ensures (line_at p.visitor.heading.items) (last_lines p.visitor.heading.items) records
          ∙ ap lines_of (c.law_of_evidence.ensures.written p.visitor.heading.items records)
          ∙ ap (λ (words : List ℕ). lines_of (evidence_bytes words records)) heading,
    )
    told (recorded_still (g.M.Media.disk c.args.media.now) (g.M.Media.disk c.printer_of.new.media) e.unchanged opening events t0 c.args.recorder.now h))

pub returns-in-Ok-clause-others : goal.returns-in-Ok-clause-others
returns-in-Ok-clause-others g c = elsewhere_before _ _ c.printer_of.ensures.unchanged _ c.tell.ensures.others

pub returns-in-Ok-clause-cause : goal.returns-in-Ok-clause-cause
returns-in-Ok-clause-cause g c = order_cause _ _ _ _ _ c.printer_of.ensures.cause.later c.tell.ensures.cause

pub returns-in-Err-clause-answered : goal.returns-in-Err-clause-answered
returns-in-Err-clause-answered g c = λ opening events t0 told h.
    let e = c.printer_of.ensures in
    let r = c.args.recorder.now in
    let old = g.M.Media.disk c.args.media.now in
    let mid = g.M.Media.disk c.printer_of.new.media in
    let was = g.M.Media.faults c.args.media.now in
    let now = g.M.Media.faults c.printer_of.new.media in
    let met = Rose (sum was) (sum now) in
    let q = asked c.save_query-query.result in
    let k = recorded_still old mid e.unchanged opening events t0 r h in
    let lives = has_so (lacks_channel (length r.vault.config.channels) q.channel) (lacks_incident r.vault.table q.medium) c.is_there.result c.is_there.ensures c.if-not-is_there.false in
    answered_before old mid e.unchanged r.vault.config.channels met met opening events t0 c.args.id c.of_part.result r r mid (g.W.Watch.seen c.args.watch.now) (g.W.Watch.seen c.look_watched-in-Err.new.watch)
    (λ rose. rose)
    (part_answer opening events t0 r mid k met c.of_part.result g.W.Watch.hears (g.W.Watch.seen c.args.watch.now) (g.W.Watch.seen c.look_watched-in-Err.new.watch) c.requires.works c.args.id c.in-Err.refused c.of_part.ensures
    (λ m offset is. has_text opening events t0 r old h c.requires.works told (e.damaged m offset (c.in-Err.is ∙ ap Err is) told))
    (λ is. sum_rose was now 0 e.cause.later.same_media e.cause.later.none_falls (e.cause.rose (c.in-Err.is ∙ ap Err is)))
    (subst (λ (asks : Query). lacks_incident r.vault.table asks.medium ≡ false) c.save_query-query.ensures lives)
    (c.look_watched-in-Err.ensures.told opening events t0 k))

pub returns-in-Err-clause-rings : goal.returns-in-Err-clause-rings
returns-in-Err-clause-rings g c = rings_still _ _ c.printer_of.ensures.unchanged c.args.recorder.now.vault c.requires.rings

pub returns-in-Err-clause-others : goal.returns-in-Err-clause-others
returns-in-Err-clause-others g c = elsewhere_before _ _ c.printer_of.ensures.unchanged _ (λ told k apart. refl)

pub returns-in-Err-clause-cause : goal.returns-in-Err-clause-cause
returns-in-Err-clause-cause g c = read_cause _ _ _ c.printer_of.ensures.cause.later

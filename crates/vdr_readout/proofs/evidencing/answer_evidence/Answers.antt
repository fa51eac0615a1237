use Rattle.std.proofs.Common.{◌≡◌, inr, Ok, Err, refl}
use Rattle.std.proofs.lemmas.Result.{err_from_is_err_and}
use Rattle.vdr_outside.proofs.Moments.{unchanged_join}
use Rattle.vdr_entry.specs.Queries.{asked}
use Rattle.vdr_visit.specs.declared.visit_refused.VisitRefused.TheVariants.{Damaged, Fault}
use Rattle.vdr_command.specs.Opened.{AreLooks}
use Rattle.vdr_command.specs.Outside.{Outside}
use Rattle.vdr_command.proofs.OpenedLemmas.{missing_looked, no_looks, refused_ends}
use Rattle.vdr_recorder.proofs.Visits.{looked_nothing}
use Rattle.vdr_readout.specs.Reads.{AskedPlay, plain_play}
use Rattle.vdr_export.specs.declared.timing.Timing.TheVariants.{Numbered}
use Rattle.vdr_export.specs.declared.wish.Wish.TheVariants.{Sound}
use Rattle.vdr_readout.proofs.DamageLemmas.{told_so}
use Rattle.vdr_readout.proofs.EvidenceLemmas.{channel_evidence, evidence_known, evidence_owed, heading_is, incident_evidence, part_evidence, refused_evidence}
use Rattle.vdr_readout.proofs.EvidenceReads.{both_looked, damage_before, part_ends, room_before, text_held, visited_before}
use Rattle.vdr_readout.proofs.ExportLemmas.{both_there, incident_exports}
use Rattle.vdr_readout.proofs.ReadLemmas.{never_damaged, read_ends, read_shows, wanted_so}
use Rattle.vdr_readout.proofs.RefusedLemmas.{channel_ends}
use Rattle.vdr_readout.proofs.evidencing.answer_evidence.Goals as goal

pub writer_for-requires : goal.writer_for-requires
writer_for-requires g c = room_before c.in_ok-recorder.recorder.vault (g.M.Media.disk c.open.new.media).sizes c.in_ok-recorder.ensures.opened.rings

pub returns-in_err-recorder-clause-owed : goal.returns-in_err-recorder-clause-owed
returns-in_err-recorder-clause-owed g c =
    let told = c.open.ensures in
    let p = err_from_is_err_and c.from_residual.result c.from_residual.ensures.1 in
    rw (p.1, p.2)
    (refused_evidence _ _ _ (c.law_of_openings.ensures (g.M.Media.disk c.args.world.now.media).reads) told.missing c.in_err-recorder.field-0.0 refl
    (refused_ends _ _ AreLooks _ _ c.open.result c.in_err-recorder.field-0.0 no_looks c.in_err-recorder.was
    told.refused.unformatted told.refused.damaged told.refused.untouched told.refused.blank told.writes.others told.writes.cause told.moments))

pub returns-in_default-clause-owed : goal.returns-in_default-clause-owed
returns-in_default-clause-owed g c =
    let told = c.open.ensures in
    channel_evidence _ _ _ (c.law_of_openings.ensures (g.M.Media.disk c.args.world.now.media).reads) told.missing c.report_channel.ensures
    (channel_ends _ _ _ c.open.result c.in_ok-recorder.recorder c.in_ok-recorder.was c.in_ok-recorder.recorder.vault c.in_default.ensures.none c.in_ok-recorder.ensures.opened.parts
    told.writes.others told.moments)

pub returns-in_default-accept-clause-owed : goal.returns-in_default-accept-clause-owed
returns-in_default-accept-clause-owed g c =
    let told = c.in_ok-recorder.ensures in
    let old : Outside g.M.Media.tells g.M.Media.tells_images = record {
      input = record { left = g.I.Source.left c.args.world.now.input; faults = g.I.Source.faults c.args.world.now.input };
      output = record { taken = g.O.Sink.taken c.args.world.now.output; faults = g.O.Sink.faults c.args.world.now.output };
      media = record { disk = g.M.Media.disk c.args.world.now.media; faults = g.M.Media.faults c.args.world.now.media; bytes_read = g.M.Media.bytes_read c.args.world.now.media };
    } in
    let mid : Outside g.M.Media.tells g.M.Media.tells_images = record {
      input = old.input;
      output = old.output;
      media = record { disk = g.M.Media.disk c.open.new.media; faults = g.M.Media.faults c.open.new.media; bytes_read = g.M.Media.bytes_read c.open.new.media };
    } in
    let wants = wanted_so _ _ _ _ _ (asked c.in-Some.query) c.in-Some.ensures.found.0 c.in-Some.ensures.found.1 in
    let ends =
    incident_exports (Sound Numbered) (plain_play c.args.wanted) old mid mid.media c.in_ok-recorder.recorder c.in_ok-recorder.recorder (asked c.in-Some.query) wants told.opened.works told.opened.parts told.opened.contents told.opened.opened told.opened.readable
    c.open.ensures.writes.cause.later c.open.ensures.writes.others c.open.ensures.missing c.open.result c.open.ensures.moments
    c.accept.result _ c.accept.ensures c.in_default-accept.is
    (looked_nothing (asked c.in-Some.query) c.in_ok-recorder.recorder (g.M.Media.disk c.open.new.media) (g.M.Media.bytes_read c.open.new.media) (g.M.Media.faults c.open.new.media) ⊥ (λ never. absurd never) told.opened.rings) refl in
    rw (c.id_of.ensures)
    (incident_evidence (plain_play c.args.wanted) old mid (c.law_of_openings.ensures (g.M.Media.disk c.args.world.now.media).reads) c.open.ensures.missing refl ends.media)

pub returns-in-Err-clause-owed : goal.returns-in-Err-clause-owed
returns-in-Err-clause-owed g c =
    let told = c.in_ok-recorder.ensures in
    let made = c.writer_for.ensures in
    let old : Outside g.M.Media.tells g.M.Media.tells_images = record {
      input = record { left = g.I.Source.left c.args.world.now.input; faults = g.I.Source.faults c.args.world.now.input };
      output = record { taken = g.O.Sink.taken c.args.world.now.output; faults = g.O.Sink.faults c.args.world.now.output };
      media = record { disk = g.M.Media.disk c.args.world.now.media; faults = g.M.Media.faults c.args.world.now.media; bytes_read = g.M.Media.bytes_read c.args.world.now.media };
    } in
    let mid : Outside g.M.Media.tells g.M.Media.tells_images = record {
      input = old.input;
      output = old.output;
      media = record { disk = g.M.Media.disk c.open.new.media; faults = g.M.Media.faults c.open.new.media; bytes_read = g.M.Media.bytes_read c.open.new.media };
    } in
    let new : Outside g.M.Media.tells g.M.Media.tells_images = record {
      input = old.input;
      output = old.output;
      media = record { disk = g.M.Media.disk c.writer_for.new.media; faults = g.M.Media.faults c.writer_for.new.media; bytes_read = g.M.Media.bytes_read c.writer_for.new.media };
    } in
    let wants = wanted_so _ _ _ _ _ (asked c.in-Some.query) c.in-Some.ensures.found.0 c.in-Some.ensures.found.1 in
    let there = both_there _ _ c.accept.result c.accept.ensures c.in-Ok.is in
    rw (c.status_of_part.ensures)
    (part_evidence (plain_play c.args.wanted) old new (c.law_of_openings.ensures (g.M.Media.disk c.args.world.now.media).reads)
    (missing_looked (g.M.Media.disk c.args.world.now.media) (g.M.Media.disk c.open.new.media) (g.M.Media.disk c.writer_for.new.media) c.open.ensures.missing made.unchanged)
    c.in-Err.refused refl
    (part_ends (plain_play c.args.wanted) old.media mid.media new.media c.in_ok-recorder.recorder (asked c.in-Some.query) wants told.opened.works told.opened.parts told.opened.opened told.opened.readable
    c.open.ensures.writes.cause.later c.open.ensures.writes.others c.open.result c.open.ensures.moments told.opened.rings made.unchanged there.0 there.1
    c.writer_for.result c.in-Err.refused c.in-Err.is made.damaged made.cause))

pub returns-clause-owed : goal.returns-clause-owed
returns-clause-owed g c =
    let told = c.in_ok-recorder.ensures in
    let made = c.writer_for.ensures in
    let writer = c.in-Ok-writer_for.writer in
    let visit = c.visit-ended.ensures in
    let wanted : AskedPlay = plain_play c.args.wanted in
    let r = c.in_ok-recorder.recorder in
    let q = asked c.in-Some.query in
    let old : Outside g.M.Media.tells g.M.Media.tells_images = record {
      input = record { left = g.I.Source.left c.args.world.now.input; faults = g.I.Source.faults c.args.world.now.input };
      output = record { taken = g.O.Sink.taken c.args.world.now.output; faults = g.O.Sink.faults c.args.world.now.output };
      media = record { disk = g.M.Media.disk c.args.world.now.media; faults = g.M.Media.faults c.args.world.now.media; bytes_read = g.M.Media.bytes_read c.args.world.now.media };
    } in
    let mid : Outside g.M.Media.tells g.M.Media.tells_images = record {
      input = old.input;
      output = old.output;
      media = record { disk = g.M.Media.disk c.open.new.media; faults = g.M.Media.faults c.open.new.media; bytes_read = g.M.Media.bytes_read c.writer_for.new.media };
    } in
    let new : Outside g.M.Media.tells g.M.Media.tells_images = record {
      input = old.input;
      output = record { taken = g.O.Sink.taken c.visit-ended.new.out; faults = g.O.Sink.faults c.visit-ended.new.out };
      media = record { disk = g.M.Media.disk c.visit-ended.new.media; faults = g.M.Media.faults c.visit-ended.new.media; bytes_read = g.M.Media.bytes_read c.visit-ended.new.media };
    } in
    let wants = wanted_so _ _ _ _ _ q c.in-Some.ensures.found.0 c.in-Some.ensures.found.1 in
    let new_writer = c.in-Ok-writer_for.ensures.new in
    let visited = visited_before q r.vault mid.media.disk (g.M.Media.disk c.writer_for.new.media) made.unchanged told.opened.rings (visit.visited writer (new_writer, new_writer)) in
    let undamaged = never_damaged visited in
    let still = unchanged_join _ _ _ made.unchanged visit.looked.read.unchanged in
    let damage =
    told_so wanted old.media.disk mid.media.disk new.media.disk r.vault q (λ m offset. c.visit-ended.result ≡ Err (Damaged m offset)) (c.visit-ended.result ≡ Ok tt)
    wants.is told.opened.known told.opened.judged told.opened.rings c.law_of_meeting.ensures still
    (damage_before q r.vault mid.media.disk (g.M.Media.disk c.writer_for.new.media) made.unchanged _ _ told.opened.rings visit.damage) in
    let looked =
    both_looked q r c.visit-ended.new.self mid.media.disk (g.M.Media.disk c.writer_for.new.media) new.media.disk mid.media.bytes_read new.media.bytes_read mid.media.faults (g.M.Media.faults c.writer_for.new.media) new.media.faults
    (c.visit-ended.result ≡ Err Fault) made.unchanged told.opened.rings made.cause.later visit.looked in
    rw (c.ended_by.ensures.is)
    (evidence_owed _ wanted _ writer.heading.items c.law_of_evidence.ensures.written old new _
    (λ x t holds. let text = c.in-Ok-writer_for.ensures.heading t in
    heading_is _ _ _ wanted x text.3 (text_held old.media.disk mid.media.disk c.open.ensures.writes.others x t holds text.0 text.1 text.2) (told.opened.contents x t holds).1.table)
    (read_shows wanted old.media mid.media new.media r c.visit-ended.new.self q c.visit-ended.result wants told.opened.works told.opened.parts told.opened.opened told.opened.readable
    visit.accepted undamaged damage looked c.open.ensures.writes.cause.later c.open.ensures.writes.others _ c.ended_by.ensures.own c.open.result c.open.ensures.moments
    told.opened.contents _ _ _ _ old.output new.output visited
    (λ refused. let same = (visit.unread (inr refused)).3 in λ i. record { taken = g.O.Sink.taken (same i); faults = g.O.Sink.faults (same i) })
    visit.output.rose)
    (c.law_of_openings.ensures (g.M.Media.disk c.args.world.now.media).reads)
    (read_ends wanted old.media mid.media new.media r c.visit-ended.new.self q c.visit-ended.result wants told.opened.works told.opened.parts told.opened.opened told.opened.readable
    visit.accepted undamaged damage looked c.open.ensures.writes.cause.later c.open.ensures.writes.others _ c.ended_by.ensures.own c.open.result c.open.ensures.moments)
    (missing_looked (g.M.Media.disk c.args.world.now.media) (g.M.Media.disk c.open.new.media) (g.M.Media.disk c.visit-ended.new.media) c.open.ensures.missing still))

pub returns-clause-known : goal.returns-clause-known
returns-clause-known g c = evidence_known (returns-clause-owed g c)

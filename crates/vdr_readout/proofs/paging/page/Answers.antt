use Rattle.std.proofs.Common.{◌≡◌, ◌∙◌, List, [], Ok, Err, refl, ap}
use Rattle.std.specs.Prelude.{map}
use Rattle.std.proofs.lemmas.Result.{err_from_is_err_and}
use Rattle.vdr_entry.specs.Queries.{asked}
use Rattle.vdr_opening.specs.Media.{opening_of}
use Rattle.vdr_page.specs.declared.front.Save.{Save}
use Rattle.vdr_page.specs.Fronts.{save_of, words_of}
use Rattle.vdr_visit.specs.Visits.{end_of}
use Rattle.vdr_visit.specs.declared.visit_refused.VisitRefused.TheVariants.{Damaged, Fault}
use Rattle.vdr_command.specs.Opened.{AreLooks}
use Rattle.vdr_command.specs.Outside.{Outside}
use Rattle.vdr_command.proofs.OpenedLemmas.{missing_looked, no_looks, refused_ends}
use Rattle.vdr_recorder.proofs.Visits.{looked_as, looked_nothing, told_as}
use Rattle.vdr_export.specs.declared.timing.Timing.TheVariants.{Numbered}
use Rattle.vdr_readout.specs.Paged.{saves_in}
use Rattle.vdr_readout.specs.Reads.{AskedPlay, plain_play}
use Rattle.vdr_export.specs.declared.wish.Wish.TheVariants.{Sound}
use Rattle.vdr_readout.proofs.DamageLemmas.{told_so}
use Rattle.vdr_readout.proofs.ExportLemmas.{both_there, incident_exports}
use Rattle.vdr_readout.proofs.PageLemmas.{accepted_so, asked_are, channel_page, incident_page, page_owed, refused_page}
use Rattle.vdr_readout.proofs.ReadLemmas.{read_ends, to_read, wanted_so}
use Rattle.vdr_readout.proofs.RefusedLemmas.{channel_ends}
use Rattle.vdr_readout.proofs.paging.page.Goals as goal

pub returns-in_err-recorder-clause-ends : goal.returns-in_err-recorder-clause-ends
returns-in_err-recorder-clause-ends g c =
    let told = c.open.ensures in
    let p = err_from_is_err_and c.from_residual.result c.from_residual.ensures.1 in
    rw (p.1, p.2)
    (refused_page _ _ _ _ told.missing c.in_err-recorder.field-0.0 refl
    (refused_ends _ _ AreLooks _ _ c.open.result c.in_err-recorder.field-0.0 no_looks c.in_err-recorder.was
    told.refused.unformatted told.refused.damaged told.refused.untouched told.refused.blank told.writes.others told.writes.cause told.moments))

pub returns-in_default-clause-ends : goal.returns-in_default-clause-ends
returns-in_default-clause-ends g c =
    let told = c.open.ensures in
    channel_page _ _ _ _ told.missing c.report_channel.ensures
    (channel_ends _ _ _ c.open.result c.in_ok-recorder.recorder c.in_ok-recorder.was c.in_ok-recorder.recorder.vault c.in_default.ensures.none c.in_ok-recorder.ensures.opened.parts
    told.writes.others told.moments)

pub returns-in_default-accept-clause-ends : goal.returns-in_default-accept-clause-ends
returns-in_default-accept-clause-ends g c =
    let told = c.in_ok-recorder.ensures in
    let old : Outside g.M.Media.tells g.M.Media.tells_images = record {
      input = record { left = g.I.Source.left c.args.world.now.input; faults = g.I.Source.faults c.args.world.now.input };
      output = record { taken = g.O.Sink.taken c.args.world.now.output; faults = g.O.Sink.faults c.args.world.now.output };
      media = record { disk = g.M.Media.disk c.args.world.now.media; faults = g.M.Media.faults c.args.world.now.media; bytes_read = g.M.Media.bytes_read c.args.world.now.media };
    } in
    let mid : Outside g.M.Media.tells g.M.Media.tells_images = record {
      input = old.input;
      output = old.output;
      media = record { disk = g.M.Media.disk c.open.new.media; faults = g.M.Media.faults c.open.new.media; bytes_read = g.M.Media.bytes_read c.open.new.media };
    } in
    let wants = wanted_so _ _ _ _ _ (asked c.in-Some.query) c.in-Some.ensures.found.0 c.in-Some.ensures.found.1 in
    let ends =
    incident_exports (Sound Numbered) (plain_play c.args.wanted) old mid mid.media c.in_ok-recorder.recorder c.in_ok-recorder.recorder (asked c.in-Some.query) wants told.opened.works told.opened.parts told.opened.contents told.opened.opened told.opened.readable
    c.open.ensures.writes.cause.later c.open.ensures.writes.others c.open.ensures.missing c.open.result c.open.ensures.moments
    c.accept.result _ c.accept.ensures c.in_default-accept.is
    (looked_nothing (asked c.in-Some.query) c.in_ok-recorder.recorder (g.M.Media.disk c.open.new.media) (g.M.Media.bytes_read c.open.new.media) (g.M.Media.faults c.open.new.media) ⊥ (λ never. absurd never) told.opened.rings) refl in
    rw (c.id_of.ensures)
    (incident_page (words_of c.args.words.now) (plain_play c.args.wanted) old mid c.open.ensures.missing refl ends.media)

pub write_page-ended-requires : goal.write_page-ended-requires
write_page-ended-requires g c =
    let there = both_there _ _ c.accept.result c.accept.ensures c.in-Ok.is in
    record { asked = record { may = c.in_ok-recorder.ensures.opened.rings; channel = there.0; incident = there.1 } }

pub returns-clause-ends : goal.returns-clause-ends
returns-clause-ends g c =
    let told = c.in_ok-recorder.ensures in
    let made = c.write_page-ended.ensures in
    let wanted : AskedPlay = plain_play c.args.wanted in
    let r = c.in_ok-recorder.recorder in
    let q = asked c.in-Some.query in
    let old : Outside g.M.Media.tells g.M.Media.tells_images = record {
      input = record { left = g.I.Source.left c.args.world.now.input; faults = g.I.Source.faults c.args.world.now.input };
      output = record { taken = g.O.Sink.taken c.args.world.now.output; faults = g.O.Sink.faults c.args.world.now.output };
      media = record { disk = g.M.Media.disk c.args.world.now.media; faults = g.M.Media.faults c.args.world.now.media; bytes_read = g.M.Media.bytes_read c.args.world.now.media };
    } in
    let mid : Outside g.M.Media.tells g.M.Media.tells_images = record {
      input = old.input;
      output = old.output;
      media = record { disk = g.M.Media.disk c.open.new.media; faults = g.M.Media.faults c.open.new.media; bytes_read = g.M.Media.bytes_read c.open.new.media };
    } in
    let new : Outside g.M.Media.tells g.M.Media.tells_images = record {
      input = old.input;
      output = record { taken = g.O.Sink.taken c.write_page-ended.new.out; faults = g.O.Sink.faults c.write_page-ended.new.out };
      media = record { disk = g.M.Media.disk c.write_page-ended.new.media; faults = g.M.Media.faults c.write_page-ended.new.media; bytes_read = g.M.Media.bytes_read c.write_page-ended.new.media };
    } in
    let wants = wanted_so _ _ _ _ _ q c.in-Some.ensures.found.0 c.in-Some.ensures.found.1 in
    let there = both_there _ _ c.accept.result c.accept.ensures c.in-Ok.is in
    let looked = looked_as _ _ _ _ _ _ _ _ _ _ (c.write_page-ended.result ≡ Err Fault) (λ is. ap end_of is) made.leaves.looked in
    let damage =
    told_so wanted old.media.disk mid.media.disk new.media.disk r.vault q (λ m offset. c.write_page-ended.result ≡ Err (Damaged m offset)) (c.write_page-ended.result ≡ Ok tt)
    wants.is told.opened.known told.opened.judged told.opened.rings c.law_of_meeting.ensures looked.read.unchanged
    (told_as _ _ _ _ _ _ _ (λ m offset is. ap end_of is) (λ done. ap end_of done) made.leaves.damage) in
    rw (c.ended_by.ensures.is)
    (page_owed (words_of c.args.words.now) wanted old new
    (missing_looked (g.M.Media.disk c.args.world.now.media) (g.M.Media.disk c.open.new.media) (g.M.Media.disk c.write_page-ended.new.media) c.open.ensures.missing looked.read.unchanged)
    (map save_of c.as_slice.result.now) _
    (λ x t holds can.
    let read = to_read wanted old.media mid.media new.media r c.write_page-ended.new.reader q c.write_page-ended.result wants told.opened.works told.opened.parts told.opened.opened told.opened.readable x t holds can in
    record { told = t; opening = opening_of x; events = []; placed = read.0; readable = read.1; are = asked_are x wanted r.vault.config q wants (told.opened.contents x t holds).1.config })
    (λ x t holds. ap (λ (l : List Save). map save_of l) c.as_slice.ensures.value ∙ c.saves_in-saves.ensures ∙ ap saves_in (told.opened.contents x t holds).1.table)
    c.write_page-ended.result made.page made.asked made.output
    (read_ends wanted old.media mid.media new.media r c.write_page-ended.new.reader q c.write_page-ended.result wants told.opened.works told.opened.parts told.opened.opened told.opened.readable
    (accepted_so _ _ c.write_page-ended.result there.0 there.1 made.asked)
    (λ opening events placed m offset t readable is. made.page.undamaged m offset is _ (record { told = t; opening = opening; events = events; placed = placed; readable = readable; are = refl }))
    damage looked c.open.ensures.writes.cause.later c.open.ensures.writes.others _ c.ended_by.ensures.own c.open.result c.open.ensures.moments))

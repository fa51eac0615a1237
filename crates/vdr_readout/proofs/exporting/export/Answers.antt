use Rattle.std.proofs.Common.{◌≡◌, ◌∙◌, inr, Ok, Err, refl, ap}
use Rattle.std.proofs.lemmas.Result.{err_from_is_err_and}
use Rattle.vdr_durability.specs.Playback.{selected}
use Rattle.vdr_entry.specs.Queries.{asked}
use Rattle.vdr_opening.specs.declared.refused.OpenRefused.{OpenRefused}
use Rattle.vdr_command.specs.Opened.{AreLooks}
use Rattle.vdr_command.specs.Outside.{Outside}
use Rattle.vdr_command.proofs.OpenedLemmas.{missing_looked, no_looks, refused_ends}
use Rattle.vdr_config.specs.Configuration.{Configuration}
use Rattle.vdr_export.specs.Wishes.{kind_at, wished}
use Rattle.vdr_readout.specs.Reads.{plain_play}
use Rattle.vdr_export.specs.declared.refused.ExportRefused.TheVariants.{Damaged, Fault}
use Rattle.vdr_export.specs.Answers.{file_end}
use Rattle.vdr_recorder.proofs.Visits.{looked_as, looked_nothing, told_as}
use Rattle.vdr_readout.proofs.DamageLemmas.{told_so}
use Rattle.vdr_readout.proofs.ExportLemmas.{both_there, channel_exports, incident_exports, kind_exports, made_exports, opening_exports, still_output}
use Rattle.vdr_readout.proofs.ReadLemmas.{wanted_so}
use Rattle.vdr_readout.proofs.exporting.export.Goals as goal

pub returns-in_err-recorder-clause-ends : goal.returns-in_err-recorder-clause-ends
returns-in_err-recorder-clause-ends g c =
    let told = c.open.ensures in
    let p = err_from_is_err_and c.from_residual.result c.from_residual.ensures.1 in
    rw (p.1, p.2)
    (opening_exports _ _ _ _ c.in_err-recorder.field-0.0
    (λ m offset e. let was = c.in_err-recorder.was ∙ ap (λ (r : OpenRefused). Err r) e in let same = told.refused.untouched (inr (m, offset, was)) in (record { leaves = same.0; reads = same.1 }, told.refused.damaged m offset was))
    refl
    (refused_ends _ _ AreLooks _ _ c.open.result c.in_err-recorder.field-0.0 no_looks c.in_err-recorder.was
    told.refused.unformatted told.refused.damaged told.refused.untouched told.refused.blank told.writes.others told.writes.cause told.moments)
    told.missing)

pub returns-in_default-clause-ends : goal.returns-in_default-clause-ends
returns-in_default-clause-ends g c =
    let told = c.open.ensures in
    channel_exports _ _ _ _ c.open.result c.in_ok-recorder.recorder c.in_ok-recorder.was c.in_ok-recorder.recorder.vault c.in_default.ensures.none c.in_ok-recorder.ensures.opened.parts c.in_ok-recorder.ensures.opened.contents
    told.writes.others told.moments c.report_channel.ensures told.missing

pub returns-in_default-accept-clause-ends : goal.returns-in_default-accept-clause-ends
returns-in_default-accept-clause-ends g c =
    let told = c.in_ok-recorder.ensures in
    let old : Outside g.M.Media.tells g.M.Media.tells_images = record {
      input = record { left = g.I.Source.left c.args.world.now.input; faults = g.I.Source.faults c.args.world.now.input };
      output = record { taken = g.O.Sink.taken c.args.world.now.output; faults = g.O.Sink.faults c.args.world.now.output };
      media = record { disk = g.M.Media.disk c.args.world.now.media; faults = g.M.Media.faults c.args.world.now.media; bytes_read = g.M.Media.bytes_read c.args.world.now.media };
    } in
    let mid : Outside g.M.Media.tells g.M.Media.tells_images = record {
      input = old.input;
      output = old.output;
      media = record { disk = g.M.Media.disk c.open.new.media; faults = g.M.Media.faults c.open.new.media; bytes_read = g.M.Media.bytes_read c.open.new.media };
    } in
    let wants = wanted_so _ _ _ _ _ (asked c.in-Some.query) c.in-Some.ensures.found.0 c.in-Some.ensures.found.1 in
    rw (c.id_of.ensures)
    (incident_exports c.args.wish (plain_play c.args.wanted) old mid mid.media c.in_ok-recorder.recorder c.in_ok-recorder.recorder (asked c.in-Some.query) wants told.opened.works told.opened.parts told.opened.contents told.opened.opened told.opened.readable
    c.open.ensures.writes.cause.later c.open.ensures.writes.others c.open.ensures.missing c.open.result c.open.ensures.moments
    c.accept.result _ c.accept.ensures c.in_default-accept.is
    (looked_nothing (asked c.in-Some.query) c.in_ok-recorder.recorder (g.M.Media.disk c.open.new.media) (g.M.Media.bytes_read c.open.new.media) (g.M.Media.faults c.open.new.media) ⊥ (λ never. absurd never) told.opened.rings) refl)

pub returns-in_default-file_of-clause-ends : goal.returns-in_default-file_of-clause-ends
returns-in_default-file_of-clause-ends g c =
    let told = c.in_ok-recorder.ensures in
    let old : Outside g.M.Media.tells g.M.Media.tells_images = record {
      input = record { left = g.I.Source.left c.args.world.now.input; faults = g.I.Source.faults c.args.world.now.input };
      output = record { taken = g.O.Sink.taken c.args.world.now.output; faults = g.O.Sink.faults c.args.world.now.output };
      media = record { disk = g.M.Media.disk c.args.world.now.media; faults = g.M.Media.faults c.args.world.now.media; bytes_read = g.M.Media.bytes_read c.args.world.now.media };
    } in
    let mid : Outside g.M.Media.tells g.M.Media.tells_images = record {
      input = old.input;
      output = old.output;
      media = record { disk = g.M.Media.disk c.open.new.media; faults = g.M.Media.faults c.open.new.media; bytes_read = g.M.Media.bytes_read c.open.new.media };
    } in
    let wants = wanted_so _ _ _ _ _ (asked c.in-Some.query) c.in-Some.ensures.found.0 c.in-Some.ensures.found.1 in
    let there = both_there _ _ c.accept.result c.accept.ensures c.in-Ok.is in
    kind_exports c.args.wish (plain_play c.args.wanted) old mid mid.media c.in_ok-recorder.recorder c.in_ok-recorder.recorder (asked c.in-Some.query) wants told.opened.works told.opened.parts told.opened.contents told.opened.opened told.opened.readable
    c.open.ensures.writes.cause.later c.open.ensures.writes.others c.open.ensures.missing c.open.result c.open.ensures.moments
    there.0 there.1 c.file_of.result (c.file_of.ensures ∙ ap (λ (d : Configuration). wished c.args.wish (kind_at d.channels c.in-Some.query.channel)) c.config.ensures) c.in_default-file_of.is
    (looked_nothing (asked c.in-Some.query) c.in_ok-recorder.recorder (g.M.Media.disk c.open.new.media) (g.M.Media.bytes_read c.open.new.media) (g.M.Media.faults c.open.new.media) ⊥ (λ never. absurd never) told.opened.rings) refl

pub export_file-written-requires : goal.export_file-written-requires
export_file-written-requires g c =
    let there = both_there _ _ c.accept.result c.accept.ensures c.in-Ok.is in
    record { asked = record { may = c.in_ok-recorder.ensures.opened.rings; channel = there.0; incident = there.1 } }

pub returns-clause-ends : goal.returns-clause-ends
returns-clause-ends g c =
    let told = c.in_ok-recorder.ensures in
    let made = c.export_file-written.ensures in
    let old : Outside g.M.Media.tells g.M.Media.tells_images = record {
      input = record { left = g.I.Source.left c.args.world.now.input; faults = g.I.Source.faults c.args.world.now.input };
      output = record { taken = g.O.Sink.taken c.args.world.now.output; faults = g.O.Sink.faults c.args.world.now.output };
      media = record { disk = g.M.Media.disk c.args.world.now.media; faults = g.M.Media.faults c.args.world.now.media; bytes_read = g.M.Media.bytes_read c.args.world.now.media };
    } in
    let mid : Outside g.M.Media.tells g.M.Media.tells_images = record {
      input = old.input;
      output = old.output;
      media = record { disk = g.M.Media.disk c.open.new.media; faults = g.M.Media.faults c.open.new.media; bytes_read = g.M.Media.bytes_read c.open.new.media };
    } in
    let wants = wanted_so _ _ _ _ _ (asked c.in-Some.query) c.in-Some.ensures.found.0 c.in-Some.ensures.found.1 in
    let new : Outside g.M.Media.tells g.M.Media.tells_images = record {
      input = old.input;
      output = record { taken = g.O.Sink.taken c.export_file-written.new.out; faults = g.O.Sink.faults c.export_file-written.new.out };
      media = record { disk = g.M.Media.disk c.export_file-written.new.media; faults = g.M.Media.faults c.export_file-written.new.media; bytes_read = g.M.Media.bytes_read c.export_file-written.new.media };
    } in
    let there = both_there _ _ c.accept.result c.accept.ensures c.in-Ok.is in
    let looked = looked_as _ _ _ _ _ _ _ _ _ _ (c.export_file-written.result ≡ Err Fault) (λ is. ap file_end is) made.leaves.looked in
    let damage =
    told_so (plain_play c.args.wanted) old.media.disk mid.media.disk new.media.disk c.in_ok-recorder.recorder.vault (asked c.in-Some.query)
    (λ m offset. c.export_file-written.result ≡ Err (Damaged m offset)) (c.export_file-written.result ≡ Ok tt)
    wants.is told.opened.known told.opened.judged told.opened.rings c.law_of_meeting.ensures looked.read.unchanged
    (told_as _ _ _ _ _ _ _ (λ m offset is. ap file_end is) (λ done. ap file_end done) made.leaves.damage) in
    rw c.exported.ensures
    (made_exports c.args.wish (plain_play c.args.wanted) old new mid.media c.in_ok-recorder.recorder c.export_file-written.new.reader (asked c.in-Some.query) wants told.opened.works told.opened.parts told.opened.contents told.opened.opened told.opened.readable
    c.open.ensures.writes.cause.later c.open.ensures.writes.others
    (missing_looked (g.M.Media.disk c.args.world.now.media) (g.M.Media.disk c.open.new.media) (g.M.Media.disk c.export_file-written.new.media) c.open.ensures.missing looked.read.unchanged) c.open.result c.open.ensures.moments
    there.0 there.1 c.file_of.result (c.file_of.ensures ∙ ap (λ (d : Configuration). wished c.args.wish (kind_at d.channels c.in-Some.query.channel)) c.config.ensures) c.in-Some-file_of.file c.in-Some-file_of.is
    c.export_file-written.result
    (λ opening events placed t readable. made.file (selected opening events (asked c.in-Some.query)) (record { told = t; opening = opening; events = events; placed = placed; readable = readable; are = refl }))
    damage looked made.own
    (still_output c.args.world.now.output c.export_file-written.new.out c.export_file-written.result _ (λ (o : g.row.O.Denot). record { taken = g.O.Sink.taken o; faults = g.O.Sink.faults o }) made.silent) made.output)

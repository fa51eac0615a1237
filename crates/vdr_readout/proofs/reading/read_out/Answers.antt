use Rattle.std.proofs.Common.{◌≡◌, [], Ok, Err, inr, refl}
use Rattle.std.proofs.lemmas.Result.{err_from_is_err_and}
use Rattle.vdr_entry.specs.Queries.{asked}
use Rattle.vdr_command.specs.Opened.{AreLooks}
use Rattle.vdr_command.specs.Outside.{Outside}
use Rattle.vdr_command.proofs.OpenedLemmas.{missing_looked, no_looks, refused_ends}
use Rattle.vdr_readout.specs.Reads.{AskedPlay, plain_play}
use Rattle.vdr_visit.specs.declared.visit_refused.VisitRefused.TheVariants.{Damaged}
use Rattle.vdr_readout.proofs.CostLemmas.{reads_few}
use Rattle.vdr_readout.proofs.DamageLemmas.{told_so}
use Rattle.vdr_readout.proofs.ReadLemmas.{never_damaged, read_ends, read_shows, to_read, wanted_so}
use Rattle.vdr_readout.proofs.RefusedLemmas.{channel_reads, opening_reads}
use Rattle.vdr_opening.specs.Media.{opening_of, parts_of}
use Rattle.vdr_readout.proofs.reading.read_out.Goals as goal

pub returns-in_err-recorder-clause-reads : goal.returns-in_err-recorder-clause-reads
returns-in_err-recorder-clause-reads g c first had =
    let told = c.open.ensures in
    let p = err_from_is_err_and c.from_residual.result c.from_residual.ensures.1 in
    rw (p.1, p.2)
    (opening_reads _ _ _ _ _ _ _ _ c.in_err-recorder.field-0.0 refl
    (refused_ends _ _ AreLooks _ _ c.open.result c.in_err-recorder.field-0.0 no_looks c.in_err-recorder.was
    told.refused.unformatted told.refused.damaged told.refused.untouched told.refused.blank told.writes.others told.writes.cause told.moments)
    told.missing)

pub returns-in_default-clause-reads : goal.returns-in_default-clause-reads
returns-in_default-clause-reads g c first had =
    let told = c.open.ensures in
    channel_reads _ _ _ _ _ _ _ _ c.open.result c.in_ok-recorder.recorder c.in_ok-recorder.was c.in_ok-recorder.recorder.vault c.in_default.ensures.none c.in_ok-recorder.ensures.opened.parts
    told.writes.others told.moments c.report_channel.ensures told.missing

pub returns-clause-reads : goal.returns-clause-reads
returns-clause-reads g c first had =
    let told = c.in_ok-recorder.ensures in
    let visit = c.visit-ended.ensures in
    let wanted : AskedPlay = plain_play c.args.wanted in
    let old : Outside g.M.Media.tells g.M.Media.tells_images = record {
      input = record { left = g.I.Source.left c.args.world.now.input; faults = g.I.Source.faults c.args.world.now.input };
      output = record { taken = g.O.Sink.taken c.args.world.now.output; faults = g.O.Sink.faults c.args.world.now.output };
      media = record { disk = g.M.Media.disk c.args.world.now.media; faults = g.M.Media.faults c.args.world.now.media; bytes_read = g.M.Media.bytes_read c.args.world.now.media };
    } in
    let mid : Outside g.M.Media.tells g.M.Media.tells_images = record {
      input = old.input;
      output = old.output;
      media = record { disk = g.M.Media.disk c.open.new.media; faults = g.M.Media.faults c.open.new.media; bytes_read = g.M.Media.bytes_read c.open.new.media };
    } in
    let new : Outside g.M.Media.tells g.M.Media.tells_images = record {
      input = old.input;
      output = record { taken = g.O.Sink.taken c.visit-ended.new.out; faults = g.O.Sink.faults c.visit-ended.new.out };
      media = record { disk = g.M.Media.disk c.visit-ended.new.media; faults = g.M.Media.faults c.visit-ended.new.media; bytes_read = g.M.Media.bytes_read c.visit-ended.new.media };
    } in
    let wants = wanted_so _ _ _ _ _ (asked c.in-Some.query) c.in-Some.ensures.found.0 c.in-Some.ensures.found.1 in
    let visited = visit.visited first had in
    let undamaged = never_damaged visited in
    let damage =
    told_so wanted old.media.disk mid.media.disk new.media.disk c.in_ok-recorder.recorder.vault (asked c.in-Some.query) (λ m offset. c.visit-ended.result ≡ Err (Damaged m offset)) (c.visit-ended.result ≡ Ok tt)
    wants.is told.opened.known told.opened.judged told.opened.rings c.law_of_meeting.ensures visit.looked.read.unchanged visit.damage in
    rw c.ended_by.ensures.is
    (record {
      shown =
          read_shows wanted old.media mid.media new.media c.in_ok-recorder.recorder c.visit-ended.new.self (asked c.in-Some.query) c.visit-ended.result wants told.opened.works told.opened.parts told.opened.opened told.opened.readable
          visit.accepted undamaged damage visit.looked c.open.ensures.writes.cause.later c.open.ensures.writes.others _ c.ended_by.ensures.own c.open.result c.open.ensures.moments
          told.opened.contents _ _ _ _ old.output new.output visited
          (λ refused. let same = (visit.unread (inr refused)).3 in λ i. record { taken = g.O.Sink.taken (same i); faults = g.O.Sink.faults (same i) })
          visit.output.rose;
      media =
          read_ends wanted old.media mid.media new.media c.in_ok-recorder.recorder c.visit-ended.new.self (asked c.in-Some.query) c.visit-ended.result wants told.opened.works told.opened.parts told.opened.opened told.opened.readable
          visit.accepted undamaged damage visit.looked c.open.ensures.writes.cause.later c.open.ensures.writes.others _ c.ended_by.ensures.own c.open.result c.open.ensures.moments;
      missing = missing_looked (g.M.Media.disk c.args.world.now.media) (g.M.Media.disk c.open.new.media) (g.M.Media.disk c.visit-ended.new.media) c.open.ensures.missing visit.looked.read.unchanged;
      bytes = λ worked x t holds can.
          let readable = to_read wanted old.media mid.media new.media c.in_ok-recorder.recorder c.visit-ended.new.self (asked c.in-Some.query) c.visit-ended.result wants told.opened.works told.opened.parts told.opened.opened
          told.opened.readable x t holds can in
          let is = (told.opened.contents x t holds).1 in
          reads_few wanted old.media mid.media new.media (asked c.in-Some.query) c.in_ok-recorder.recorder.vault x readable.0 wants.is told.opened.rings visit.looked.read.unchanged readable.1 t
          (c.law_of_budgets.ensures c.in-Some.query (opening_of x) [] c.in_ok-recorder.recorder.vault readable.0 readable.1) visit.bound is.config is.table
          (told.bytes (parts_of x) t (c.law_of_parts.ensures.legible (g.M.Media.disk c.args.world.now.media).reads x holds));
    })

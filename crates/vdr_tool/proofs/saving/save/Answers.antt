use Rattle.std.proofs.Common.{List, Option, Some, ◌∙◌, ap, suc, sym}
use Rattle.std.specs.Prelude.{is_none, option_map, position}
use Rattle.std.proofs.lemmas.Result.{err_from_is_err_and}
use Rattle.vdr_core.specs.Histories.{Incident}
use Rattle.vdr_command.specs.Opened.{MetUnsound}
use Rattle.vdr_command.specs.Endings.{ending}
use Rattle.vdr_command.specs.Outside.{MediaSeen, OutputSeen}
use Rattle.vdr_tool.specs.Saves.{CanSave, SavesAs, id_line, save_text}
use Rattle.vdr_command.proofs.OpenedLemmas.{done_is_begun, no_act, refused_ends}
use Rattle.vdr_tool.proofs.SaveLemmas.{prints_as, saved_ends, unsaved_ends, unsaved_adds, unsaved_refused}
use Rattle.vdr_recorder.specs.Watched.PlainTurn.{Save as ASave}
use Rattle.vdr_tool.proofs.Heard.{not_done_opening, not_done_save, told_once, told_saved}
use Rattle.vdr_tool.proofs.saving.save.Goals as goal

pub returns-in_err-recorder-clause-media : goal.returns-in_err-recorder-clause-media
returns-in_err-recorder-clause-media g c =
    let told = c.open_watched.ensures in
    let refused = c.in_err-recorder.field-0.0 in
    let label = c.args.label.now in
    let p = err_from_is_err_and c.from_residual.result c.from_residual.ensures.1 in
    rw (p.1, p.2)
    (refused_ends (CanSave label) (MetUnsound (g.M.Media.disk c.args.world.now.media) (g.M.Media.disk c.open_watched.new.media) (CanSave label)) _ _ _ c.open_watched.result refused
    (no_act (SavesAs label) (g.M.Media.disk c.open_watched.new.media).clock refused) c.in_err-recorder.was
    told.refused.unformatted told.refused.damaged told.refused.untouched told.refused.blank told.writes.others told.writes.cause told.moments)

pub returns-in_err-id-clause-media : goal.returns-in_err-id-clause-media
returns-in_err-id-clause-media g c =
    let told = c.in_ok-recorder.ensures in
    let save = c.save_watched.ensures in
    let old : MediaSeen g.M.Media.tells g.M.Media.tells_images = record { disk = g.M.Media.disk c.args.world.now.media; faults = g.M.Media.faults c.args.world.now.media; bytes_read = g.M.Media.bytes_read c.args.world.now.media } in
    let mid : MediaSeen g.M.Media.tells g.M.Media.tells_images = record { disk = g.M.Media.disk c.open_watched.new.media; faults = g.M.Media.faults c.open_watched.new.media; bytes_read = g.M.Media.bytes_read c.open_watched.new.media } in
    let new : MediaSeen g.M.Media.tells g.M.Media.tells_images = record { disk = g.M.Media.disk c.save_watched.new.media; faults = g.M.Media.faults c.save_watched.new.media; bytes_read = g.M.Media.bytes_read c.save_watched.new.media } in
    let p = err_from_is_err_and c.from_residual-in_err-id.result c.from_residual-in_err-id.ensures.1 in
    rw (p.1, p.2)
    (unsaved_ends old mid new c.in_ok-recorder.recorder c.save_watched.new.self
    told.opened.works told.opened.parts told.opened.opened c.open_watched.ensures.writes.cause.later c.open_watched.ensures.writes.others save.writes.others c.args.label.now c.save_watched.result (λ opening events t0 t works none whole h. let x = save.event.saved opening events t0 t works none whole h in (x.0, x.1, x.2, x.3, x.4.done)) (λ opening events t0 refused why h. (save.event.looked opening events t0 refused why h).done) (λ opening events t0 m offset t is h. (save.event.met_damage opening events t0 m offset t is h).done) (λ refused works is. (save.refuses.refused refused works is).0) save.damage.undamaged
    (λ m offset is. ((save.damage.damaged m offset is).0, (save.damage.damaged m offset is).2, λ t. save.damage.named m offset is t (told.opened.judged t)))
    c.open_watched.result c.open_watched.ensures.moments save.refuses.reason save.failing.fails save.writes.cause c.in_err-id.field-0.0 c.in_err-id.was)

pub returns-in_err-id-clause-refused : goal.returns-in_err-id-clause-refused
returns-in_err-id-clause-refused g c =
    let told = c.in_ok-recorder.ensures in
    let save = c.save_watched.ensures in
    let old : MediaSeen g.M.Media.tells g.M.Media.tells_images = record { disk = g.M.Media.disk c.args.world.now.media; faults = g.M.Media.faults c.args.world.now.media; bytes_read = g.M.Media.bytes_read c.args.world.now.media } in
    let mid : MediaSeen g.M.Media.tells g.M.Media.tells_images = record { disk = g.M.Media.disk c.open_watched.new.media; faults = g.M.Media.faults c.open_watched.new.media; bytes_read = g.M.Media.bytes_read c.open_watched.new.media } in
    let new : MediaSeen g.M.Media.tells g.M.Media.tells_images = record { disk = g.M.Media.disk c.save_watched.new.media; faults = g.M.Media.faults c.save_watched.new.media; bytes_read = g.M.Media.bytes_read c.save_watched.new.media } in
    let p = err_from_is_err_and c.from_residual-in_err-id.result c.from_residual-in_err-id.ensures.1 in
    rw (p.1, p.2)
    (unsaved_refused old mid new c.in_ok-recorder.recorder c.save_watched.new.self
    told.opened.works told.opened.parts told.opened.opened c.open_watched.ensures.writes.cause.later c.open_watched.ensures.writes.others save.writes.others c.args.label.now c.save_watched.result (λ opening events t0 t works none whole h. let x = save.event.saved opening events t0 t works none whole h in (x.0, x.1, x.2, x.3, x.4.done)) (λ opening events t0 refused why h. (save.event.looked opening events t0 refused why h).done) (λ opening events t0 m offset t is h. (save.event.met_damage opening events t0 m offset t is h).done) (λ refused works is. (save.refuses.refused refused works is).0) save.damage.undamaged
    (λ m offset is. ((save.damage.damaged m offset is).0, (save.damage.damaged m offset is).2, λ t. save.damage.named m offset is t (told.opened.judged t)))
    c.open_watched.result c.open_watched.ensures.moments save.refuses.reason save.failing.fails save.writes.cause c.in_err-id.field-0.0 c.in_err-id.was)

pub returns-clause-media : goal.returns-clause-media
returns-clause-media g c =
    let told = c.in_ok-recorder.ensures in
    let save = c.save_watched.ensures in
    let old : MediaSeen g.M.Media.tells g.M.Media.tells_images = record { disk = g.M.Media.disk c.args.world.now.media; faults = g.M.Media.faults c.args.world.now.media; bytes_read = g.M.Media.bytes_read c.args.world.now.media } in
    let mid : MediaSeen g.M.Media.tells g.M.Media.tells_images = record { disk = g.M.Media.disk c.open_watched.new.media; faults = g.M.Media.faults c.open_watched.new.media; bytes_read = g.M.Media.bytes_read c.open_watched.new.media } in
    let new : MediaSeen g.M.Media.tells g.M.Media.tells_images = record { disk = g.M.Media.disk c.save_watched.new.media; faults = g.M.Media.faults c.save_watched.new.media; bytes_read = g.M.Media.bytes_read c.save_watched.new.media } in
    saved_ends old mid new c.in_ok-recorder.recorder c.save_watched.new.self
    told.opened.works told.opened.parts told.opened.opened c.open_watched.ensures.writes.cause.later c.open_watched.ensures.writes.others save.writes.others c.args.label.now c.save_watched.result (λ opening events t0 t works none whole h. let x = save.event.saved opening events t0 t works none whole h in (x.0, x.1, x.2, x.3, x.4.done)) (λ opening events t0 refused why h. (save.event.looked opening events t0 refused why h).done) (λ opening events t0 m offset t is h. (save.event.met_damage opening events t0 m offset t is h).done) (λ refused works is. (save.refuses.refused refused works is).0) save.damage.undamaged
    (λ m offset is. ((save.damage.damaged m offset is).0, (save.damage.damaged m offset is).2, λ t. save.damage.named m offset is t (told.opened.judged t)))
    c.open_watched.result c.open_watched.ensures.moments _ c.in_ok-id.id c.print_id.ensures.done c.in_ok-id.was save.failing.works

pub returns-clause-printed : goal.returns-clause-printed
returns-clause-printed g c = λ x t holds.
    let table = (c.in_ok-recorder.ensures.opened.contents x t holds).1.table in
    let was : OutputSeen = record { taken = g.O.Sink.taken c.args.world.now.output; faults = g.O.Sink.faults c.args.world.now.output } in
    let next : OutputSeen = record { taken = g.O.Sink.taken c.print_id.new.output; faults = g.O.Sink.faults c.print_id.new.output } in
    prints_as (ending c.print_id.result) (id_line (Some c.in_ok-id.id)) (save_text x.table) was next
    (ap id_line (sym c.in_ok-id.ensures.incident.id ∙ ap (λ (slots : List (Option Incident)). option_map suc (position is_none slots)) table)) c.print_id.ensures.printed

pub returns-in_err-recorder-clause-missing : goal.returns-in_err-recorder-clause-missing
returns-in_err-recorder-clause-missing g c = λ _. c.open_watched.ensures.missing

pub returns-in_err-id-clause-missing : goal.returns-in_err-id-clause-missing
returns-in_err-id-clause-missing g c =
    let save = c.save_watched.ensures in
    let p = err_from_is_err_and c.from_residual-in_err-id.result c.from_residual-in_err-id.ensures.1 in
    rw (p.1, p.2)
    (unsaved_adds (λ m. g.M.Media.disk m) (g.M.Media.disk c.args.world.now.media) c.open_watched.new.media c.save_watched.new.media c.in_ok-recorder.recorder.vault c.args.label.now c.save_watched.result c.in_err-id.field-0.0 c.in_err-id.was
    c.open_watched.ensures.missing save.refuses.reason (λ refused works is. (save.refuses.refused refused works is).2) (λ m offset is. (save.damage.damaged m offset is).0))

pub returns-clause-missing : goal.returns-clause-missing
returns-clause-missing g c = λ unbegun. done_is_begun (ending c.print_id.result) c.print_id.ensures.done unbegun

pub returns-in_err-recorder-clause-heard : goal.returns-in_err-recorder-clause-heard
returns-in_err-recorder-clause-heard g c =
    let p = err_from_is_err_and c.from_residual.result c.from_residual.ensures.1 in
    rw (p.1, p.2) (λ done heard. not_done_opening c.in_err-recorder.field-0.0 done)

pub returns-in_err-id-clause-heard : goal.returns-in_err-id-clause-heard
returns-in_err-id-clause-heard g c =
    let p = err_from_is_err_and c.from_residual-in_err-id.result c.from_residual-in_err-id.ensures.1 in
    rw (p.1, p.2) (λ done heard. not_done_save c.in_err-id.field-0.0 done)

pub returns-clause-heard : goal.returns-clause-heard
returns-clause-heard g c = λ done heard.
    told_once (g.M.Media.disk c.args.world.now.media) (g.M.Media.disk c.open_watched.new.media) (g.M.Media.disk c.save_watched.new.media) c.open_watched.result
    (g.W.Watch.seen c.open_watched.new.watch) (g.W.Watch.seen c.save_watched.new.watch) (ASave c.args.label.now) (c.open_watched.ensures.heard heard)
    (told_saved c.save_watched.result c.in_ok-id.id c.args.label.now (g.M.Media.disk c.save_watched.new.media).clock (g.W.Watch.seen c.open_watched.new.watch) (g.W.Watch.seen c.save_watched.new.watch)
    c.save_watched.new.self.vault.failed c.in_ok-id.was c.save_watched.ensures.failing.works (c.save_watched.ensures.told heard))

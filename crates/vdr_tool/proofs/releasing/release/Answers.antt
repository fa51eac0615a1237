use Rattle.std.proofs.Common.{refl}
use Rattle.std.proofs.lemmas.Result.{err_from_is_err_and}
use Rattle.vdr_command.specs.Outside.{MediaSeen}
use Rattle.vdr_tool.specs.Releases.{CanRelease, ReleasesId}
use Rattle.vdr_command.proofs.OpenedLemmas.{no_act, refused_ends}
use Rattle.vdr_tool.proofs.SaveLemmas.{release_status, released_ends, released_missing, unreleased_adds}
use Rattle.vdr_recorder.specs.Watched.PlainTurn.{Release as ARelease}
use Rattle.vdr_tool.proofs.Heard.{not_done_opening, told_once, told_released}
use Rattle.vdr_tool.proofs.releasing.release.Goals as goal

pub returns-in_err-recorder-clause-media : goal.returns-in_err-recorder-clause-media
returns-in_err-recorder-clause-media g c =
    let told = c.open_watched.ensures in
    let refused = c.in_err-recorder.field-0.0 in
    let p = err_from_is_err_and c.from_residual.result c.from_residual.ensures.1 in
    rw (p.1, p.2)
    (refused_ends (CanRelease c.args.id) (λ m offset. ⊥) _ _ _ c.open_watched.result refused (no_act (ReleasesId c.args.id) (g.M.Media.disk c.open_watched.new.media).clock refused) c.in_err-recorder.was
    told.refused.unformatted told.refused.damaged told.refused.untouched told.refused.blank told.writes.others told.writes.cause told.moments)

pub returns-clause-media : goal.returns-clause-media
returns-clause-media g c =
    let told = c.in_ok-recorder.ensures in
    let release = c.release_watched-released.ensures in
    let old : MediaSeen g.M.Media.tells g.M.Media.tells_images = record { disk = g.M.Media.disk c.args.world.now.media; faults = g.M.Media.faults c.args.world.now.media; bytes_read = g.M.Media.bytes_read c.args.world.now.media } in
    let mid : MediaSeen g.M.Media.tells g.M.Media.tells_images = record { disk = g.M.Media.disk c.open_watched.new.media; faults = g.M.Media.faults c.open_watched.new.media; bytes_read = g.M.Media.bytes_read c.open_watched.new.media } in
    let new : MediaSeen g.M.Media.tells g.M.Media.tells_images = record { disk = g.M.Media.disk c.release_watched-released.new.media; faults = g.M.Media.faults c.release_watched-released.new.media; bytes_read = g.M.Media.bytes_read c.release_watched-released.new.media } in
    rw c.ended_by.ensures
    (released_ends old mid new c.in_ok-recorder.recorder c.release_watched-released.new.self
    told.opened.works told.opened.parts told.opened.opened c.open_watched.ensures.writes.cause.later c.open_watched.ensures.writes.others release.writes.others c.args.id c.release_watched-released.result (λ opening events t0 saved t works has h. (release.event.released opening events t0 saved t works has h).done) (λ opening events t0 why h. (release.event.looked opening events t0 why h).done) (λ works none. (release.refuses.refused works none).0)
    release.refuses.reason release.failing.fails release.failing.works release.writes.cause c.open_watched.result c.open_watched.ensures.moments c.release_watched-released.result refl)

pub returns-clause-no_incident : goal.returns-clause-no_incident
returns-clause-no_incident g c =
    let told = c.in_ok-recorder.ensures in
    let release = c.release_watched-released.ensures in
    let old : MediaSeen g.M.Media.tells g.M.Media.tells_images = record { disk = g.M.Media.disk c.args.world.now.media; faults = g.M.Media.faults c.args.world.now.media; bytes_read = g.M.Media.bytes_read c.args.world.now.media } in
    let mid : MediaSeen g.M.Media.tells g.M.Media.tells_images = record { disk = g.M.Media.disk c.open_watched.new.media; faults = g.M.Media.faults c.open_watched.new.media; bytes_read = g.M.Media.bytes_read c.open_watched.new.media } in
    let new : MediaSeen g.M.Media.tells g.M.Media.tells_images = record { disk = g.M.Media.disk c.release_watched-released.new.media; faults = g.M.Media.faults c.release_watched-released.new.media; bytes_read = g.M.Media.bytes_read c.release_watched-released.new.media } in
    rw c.ended_by.ensures
    (released_missing old mid new c.in_ok-recorder.recorder c.release_watched-released.new.self
    told.opened.works told.opened.parts told.opened.opened c.open_watched.ensures.writes.cause.later c.open_watched.ensures.writes.others release.writes.others c.args.id c.release_watched-released.result (λ opening events t0 saved t works has h. (release.event.released opening events t0 saved t works has h).done) (λ opening events t0 why h. (release.event.looked opening events t0 why h).done) (λ works none. (release.refuses.refused works none).0)
    release.refuses.reason release.failing.fails release.failing.works release.writes.cause c.release_watched-released.result refl)

pub returns-in_err-recorder-clause-missing : goal.returns-in_err-recorder-clause-missing
returns-in_err-recorder-clause-missing g c = λ _. c.open_watched.ensures.missing

pub returns-clause-missing : goal.returns-clause-missing
returns-clause-missing g c =
    let release = c.release_watched-released.ensures in
    rw c.ended_by.ensures
    (unreleased_adds (λ m. g.M.Media.disk m) (g.M.Media.disk c.args.world.now.media) c.open_watched.new.media c.release_watched-released.new.media c.in_ok-recorder.recorder.vault c.args.id c.release_watched-released.result refl
    c.open_watched.ensures.missing release.refuses.reason (λ works none. (release.refuses.refused works none).2))

pub returns-clause-statuses : goal.returns-clause-statuses
returns-clause-statuses g c = rw c.ended_by.ensures (release_status c.release_watched-released.result c.args.id)

pub returns-in_err-recorder-clause-heard : goal.returns-in_err-recorder-clause-heard
returns-in_err-recorder-clause-heard g c =
    let p = err_from_is_err_and c.from_residual.result c.from_residual.ensures.1 in
    rw (p.1, p.2) (λ done heard. not_done_opening c.in_err-recorder.field-0.0 done)

pub returns-clause-heard : goal.returns-clause-heard
returns-clause-heard g c = rw c.ended_by.ensures (λ done heard.
    told_once (g.M.Media.disk c.args.world.now.media) (g.M.Media.disk c.open_watched.new.media) (g.M.Media.disk c.release_watched-released.new.media) c.open_watched.result
    (g.W.Watch.seen c.open_watched.new.watch) (g.W.Watch.seen c.release_watched-released.new.watch) (ARelease c.args.id) (c.open_watched.ensures.heard heard)
    (told_released c.release_watched-released.result c.args.id (g.M.Media.disk c.release_watched-released.new.media).clock (g.W.Watch.seen c.open_watched.new.watch) (g.W.Watch.seen c.release_watched-released.new.watch)
    c.release_watched-released.new.self.vault.failed done c.release_watched-released.ensures.failing.works (c.release_watched-released.ensures.told heard)))

use Rattle.std.specs.Bool.{⊤}
use Rattle.std.proofs.Common.{◌≡◌, ◌∙◌, List, [], refl, ap, arith}
use Rattle.std.proofs.lemmas.Result.{err_from_is_err_and}
use Rattle.vdr_core.specs.Histories.{Event}
use Rattle.vdr_command.specs.Outside.{MediaSeen}
use Rattle.vdr_command.proofs.OpenedLemmas.{refused_ends}
use Rattle.vdr_recorder.proofs.Telling.{heard_opening}
use Rattle.vdr_live.proofs.Endings.{recorded_ends}
use Rattle.vdr_live.proofs.session.record_ports.Goals as goal

pub returns-in_err-recorder-clause-ends : goal.returns-in_err-recorder-clause-ends
returns-in_err-recorder-clause-ends g c =
    let told = c.open_watched.ensures in
    let p = err_from_is_err_and c.from_residual.result c.from_residual.ensures.1 in
    rw (p.1, p.2) (record {
      unasked = refl;
      unspoken = refl;
      media = refused_ends (λ x. ⊤) (λ m offset. ⊥) (λ (events : List Event). events ≡ []) _ _ c.open_watched.result c.in_err-recorder.field-0.0 refl c.in_err-recorder.was told.refused.unformatted told.refused.damaged told.refused.untouched told.refused.blank told.writes.others told.writes.cause told.moments;
    })

pub returns-clause-ends : goal.returns-clause-ends
returns-clause-ends g c =
    let begun = c.in_ok-recorder.ensures in
    let session = c.record_at_desks.ensures in
    let old : MediaSeen g.M.Media.tells g.M.Media.tells_images = record { disk = g.M.Media.disk c.args.media.now; faults = g.M.Media.faults c.args.media.now; bytes_read = g.M.Media.bytes_read c.args.media.now } in
    let mid : MediaSeen g.M.Media.tells g.M.Media.tells_images = record { disk = g.M.Media.disk c.open_watched.new.media; faults = g.M.Media.faults c.open_watched.new.media; bytes_read = g.M.Media.bytes_read c.open_watched.new.media } in
    let new : MediaSeen g.M.Media.tells g.M.Media.tells_images = record { disk = g.M.Media.disk c.record_at_desks.new.media; faults = g.M.Media.faults c.record_at_desks.new.media; bytes_read = g.M.Media.bytes_read c.record_at_desks.new.media } in
    recorded_ends g.P.Port g.L.Link c.args.turns c.args.lanes.now c.record_at_desks.new.lanes c.args.desks.now c.record_at_desks.new.desks old mid new c.in_ok-recorder.recorder c.record_at_desks.result c.requires.lanes.sixteen (c.record_at_desks.auto.lanes ∙ c.requires.lanes.sixteen)
    begun.opened.parts begun.opened.contents begun.opened.opened begun.recorded g.W.Watch.hears (g.W.Watch.seen c.open_watched.new.watch) (g.W.Watch.seen c.record_at_desks.new.watch)
    (λ opening heard. heard_opening opening _ (g.M.Media.disk c.args.media.now) (g.M.Media.disk c.open_watched.new.media) c.open_watched.result c.in_ok-recorder.recorder c.in_ok-recorder.was (c.open_watched.ensures.heard heard)) begun.moments (λ t k apart. c.open_watched.ensures.writes.others t k (apart 1 0 (omega arith))) c.open_watched.ensures.writes.cause.later
    session.session session.desks session.failures session.ends.groups session.ends.decides (λ is. let still = session.ends.unbegun is in (ap g.M.Media.disk still.0, still.1))
    c.open_watched.ensures.writes.others (λ x t holds. c.open_watched.ensures.missing x t holds) session.ends.others session.ends.cause

use Rattle.std.proofs.Common.{[], sym, ap, ◌∙◌}
use Rattle.vdr_recorder.specs.Watched.{Watched}
use Rattle.vdr_recorder.proofs.Watching.{recorded_now, shows_opened, watched_opened}
use Rattle.vdr_recorder.proofs.recorder.Recorder.open_watched.Goals as goal

pub opened-requires : goal.opened-requires
opened-requires g c = record {
  shown = shows_opened (g.M.Media.disk c.args.media.now) (g.M.Media.disk c.open-opened.new.media) (g.W.Watch.seen c.found.new.self) c.open-opened.result (sym c.if-is_ok.ensures.value)
      (recorded_now (g.M.Media.disk c.args.media.now) (g.M.Media.disk c.open-opened.new.media) c.open-opened.result c.open-opened.ensures.opened.opened)
      (λ heard. ap (λ (w : Watched). w.found) (c.found.ensures heard));
}

pub returns-then-is_ok-clause-recorded : goal.returns-then-is_ok-clause-recorded
returns-then-is_ok-clause-recorded g c = recorded_now (g.M.Media.disk c.args.media.now) (g.M.Media.disk c.open-opened.new.media) c.open-opened.result c.open-opened.ensures.opened.opened

pub returns-then-is_ok-clause-watched : goal.returns-then-is_ok-clause-watched
returns-then-is_ok-clause-watched g c = watched_opened (g.M.Media.disk c.args.media.now) (g.M.Media.disk c.open-opened.new.media) (g.W.Watch.seen c.opened.new.self) c.open-opened.result (recorded_now (g.M.Media.disk c.args.media.now) (g.M.Media.disk c.open-opened.new.media) c.open-opened.result c.open-opened.ensures.opened.opened)
    (λ heard. c.opened.ensures heard ∙ ap (λ (w : Watched). record { found = w.found; synced = (g.M.Media.disk c.open-opened.new.media).clock; turns = [] }) (c.found.ensures heard))

use Rattle.std.proofs.Common.{refl, ap}
use Rattle.vdr_recorder.specs.Watched.{PlainTurn as turns}
use Rattle.vdr_run.specs.Making.{rest_of}
use Rattle.vdr_recorder.proofs.Telling.{done_told, may_tell}
use Rattle.vdr_recorder.proofs.Watching.{told_ok, watched_by, works_before, works_is, works_ok}
use Rattle.vdr_recorder.proofs.recorder.Recorder.stop_watched.Goals as goal

pub tell-requires : goal.tell-requires
tell-requires g c = record {
  shown = λ is heard. may_tell (g.W.Watch.seen c.args.watch.now) c.args.self.now (g.M.Media.disk c.args.media.now) c.requires.watched c.stop-stopped.new.self (g.M.Media.disk c.stop-stopped.new.media) (turns.Stop (rest_of c.args.rest.now))
      (let goes = works_before (λ fails. (c.stop-stopped.ensures.failing.failed fails).0) (works_is c.stop-stopped.result c.is_ok.result c.is_ok.ensures.value is) in λ opening events told h. (_, c.stop-stopped.ensures.stopped opening events _ told goes h, λ _. refl))
      (works_ok c.stop-stopped.result c.is_ok.result c.is_ok.ensures.value is c.stop-stopped.ensures.failing.works) heard;
}

pub returns-clause-stopped : goal.returns-clause-stopped
returns-clause-stopped g c = λ opening events t0 told works h.
    done_told opening events t0 _ c.stop-stopped.new.self (g.M.Media.disk c.args.media.now) (g.M.Media.disk c.stop-stopped.new.media) (c.stop-stopped.ensures.stopped opening events t0 told works h) (turns.Stop (rest_of c.args.rest.now)) (g.W.Watch.seen c.args.watch.now) (g.W.Watch.seen c.tell.new.watch) c.is_ok.result
    (told_ok c.stop-stopped.result c.stop-stopped.new.self.vault.failed c.is_ok.result c.is_ok.ensures.value c.stop-stopped.ensures.failing.works c.stop-stopped.ensures.failing.fails) (λ _. refl) c.tell.ensures

pub returns-clause-watched : goal.returns-clause-watched
returns-clause-watched g c =
    watched_by (g.W.Watch.seen c.args.watch.now) c.args.self.now (g.M.Media.disk c.args.media.now) c.requires.watched c.stop-stopped.new.self (g.M.Media.disk c.stop-stopped.new.media) (g.W.Watch.seen c.tell.new.watch) (turns.Stop (rest_of c.args.rest.now)) c.is_ok.result
    (told_ok c.stop-stopped.result c.stop-stopped.new.self.vault.failed c.is_ok.result c.is_ok.ensures.value c.stop-stopped.ensures.failing.works c.stop-stopped.ensures.failing.fails) c.tell.ensures
    (λ fails. let s = c.stop-stopped.ensures.failing.failed fails in (s.1, ap g.M.Media.disk s.2))
    (λ goes. λ opening events told h. (_, c.stop-stopped.ensures.stopped opening events _ told goes h, λ _. refl))

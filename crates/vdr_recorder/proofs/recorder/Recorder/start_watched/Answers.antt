use Rattle.std.proofs.Common.{refl, ap}
use Rattle.vdr_recorder.specs.Watched.{PlainTurn as turns}
use Rattle.vdr_recorder.proofs.Telling.{done_told}
use Rattle.vdr_recorder.proofs.Watching.{may_start, start_told, watched_start}
use Rattle.vdr_recorder.proofs.recorder.Recorder.start_watched.Goals as goal

pub tell-requires : goal.tell-requires
tell-requires g c = record {
  shown = λ is heard. may_start (g.W.Watch.seen c.args.watch.now) c.args.self.now (g.M.Media.disk c.args.media.now) c.requires.watched c.start-started.new.self (g.M.Media.disk c.start-started.new.media) c.start-started.result
      (λ works np nt opening events told h. (_, c.start-started.ensures.started opening events _ told works h np nt, λ goes. refl))
      (λ fails. let s = c.start-started.ensures.refuses.failed fails in (s.0, s.1, ap g.M.Media.disk s.2)) c.is_ok.result c.is_ok.ensures.value is c.start-started.ensures.begins.works heard;
}

pub returns-clause-started : goal.returns-clause-started
returns-clause-started g c = λ opening events t0 told works h np nt.
    done_told opening events t0 _ c.start-started.new.self (g.M.Media.disk c.args.media.now) (g.M.Media.disk c.start-started.new.media) (c.start-started.ensures.started opening events t0 told works h np nt) turns.Start (g.W.Watch.seen c.args.watch.now) (g.W.Watch.seen c.tell.new.watch) c.is_ok.result
    (start_told c.start-started.result c.start-started.new.self.vault.failed c.is_ok.result c.is_ok.ensures.value c.start-started.ensures.begins.works c.start-started.ensures.begins.fails np nt) (λ goes. refl) c.tell.ensures

pub returns-clause-watched : goal.returns-clause-watched
returns-clause-watched g c =
    watched_start (g.W.Watch.seen c.args.watch.now) c.args.self.now (g.M.Media.disk c.args.media.now) c.requires.watched c.start-started.new.self (g.M.Media.disk c.start-started.new.media) c.start-started.result
    (λ works np nt opening events told h. (_, c.start-started.ensures.started opening events _ told works h np nt, λ goes. refl))
    (λ fails. let s = c.start-started.ensures.refuses.failed fails in (s.0, s.1, ap g.M.Media.disk s.2)) (g.W.Watch.seen c.tell.new.watch) c.is_ok.result c.is_ok.ensures.value c.start-started.ensures.begins.works c.start-started.ensures.begins.fails
    (λ either. let s = c.start-started.ensures.refuses.refused either in (s.0, ap g.M.Media.disk s.1)) c.tell.ensures

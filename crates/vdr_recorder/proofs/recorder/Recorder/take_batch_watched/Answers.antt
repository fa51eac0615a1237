use Rattle.std.proofs.Common.{ap}
use Rattle.vdr_recorder.specs.Watched.{PlainTurn as turns}
use Rattle.vdr_recorder.proofs.Telling.{added_are, done_told, may_tell}
use Rattle.vdr_recorder.proofs.Watching.{told_ok, watched_by, works_before, works_is, works_ok}
use Rattle.vdr_recorder.proofs.recorder.Recorder.take_batch_watched.Goals as goal

pub tell-requires : goal.tell-requires
tell-requires g c = record {
  shown = λ is heard. may_tell (g.W.Watch.seen c.args.watch.now) c.args.self.now (g.M.Media.disk c.args.media.now) c.requires.watched c.take_batch-taken.new.self (g.M.Media.disk c.take_batch-taken.new.media) (turns.Items c.args.items.now)
      (let goes = works_before (λ fails. (c.take_batch-taken.ensures.failing.failed fails).0) (works_is c.take_batch-taken.result c.is_ok.result c.is_ok.ensures.value is) in λ opening events told h. let d = c.take_batch-taken.ensures.taken opening events _ told goes h in (_, d.2, λ _. added_are opening events c.args.items.now d.0 d.1))
      (works_ok c.take_batch-taken.result c.is_ok.result c.is_ok.ensures.value is c.take_batch-taken.ensures.failing.works) heard;
}

pub returns-clause-taken : goal.returns-clause-taken
returns-clause-taken g c = λ opening events t0 told works h.
    let d = c.take_batch-taken.ensures.taken opening events t0 told works h in (
      d.0,
      d.1,
      done_told opening events t0 _ c.take_batch-taken.new.self (g.M.Media.disk c.args.media.now) (g.M.Media.disk c.take_batch-taken.new.media) d.2 (turns.Items c.args.items.now) (g.W.Watch.seen c.args.watch.now) (g.W.Watch.seen c.tell.new.watch) c.is_ok.result
          (told_ok c.take_batch-taken.result c.take_batch-taken.new.self.vault.failed c.is_ok.result c.is_ok.ensures.value c.take_batch-taken.ensures.failing.works c.take_batch-taken.ensures.failing.fails) (λ _. added_are opening events c.args.items.now d.0 d.1) c.tell.ensures,
    )

pub returns-clause-watched : goal.returns-clause-watched
returns-clause-watched g c =
    watched_by (g.W.Watch.seen c.args.watch.now) c.args.self.now (g.M.Media.disk c.args.media.now) c.requires.watched c.take_batch-taken.new.self (g.M.Media.disk c.take_batch-taken.new.media) (g.W.Watch.seen c.tell.new.watch) (turns.Items c.args.items.now) c.is_ok.result
    (told_ok c.take_batch-taken.result c.take_batch-taken.new.self.vault.failed c.is_ok.result c.is_ok.ensures.value c.take_batch-taken.ensures.failing.works c.take_batch-taken.ensures.failing.fails) c.tell.ensures
    (λ fails. let s = c.take_batch-taken.ensures.failing.failed fails in (s.1, ap g.M.Media.disk s.2))
    (λ goes. λ opening events told h. let d = c.take_batch-taken.ensures.taken opening events _ told goes h in (_, d.2, λ _. added_are opening events c.args.items.now d.0 d.1))

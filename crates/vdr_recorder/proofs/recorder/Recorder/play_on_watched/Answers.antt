use Rattle.std.proofs.Common.{not, refl, sym, ap, ◌∙◌}
use Rattle.vdr_recorder.specs.Watched.{PlainTurn as turns}
use Rattle.vdr_core.specs.Histories.Act.{Look}
use Rattle.vdr_recorder.proofs.Telling.{done_told, may_tell, still_watched}
use Rattle.vdr_recorder.proofs.Watching.{not_is}
use Rattle.vdr_recorder.proofs.recorder.Recorder.play_on_watched.Goals as goal

pub tell-requires : goal.tell-requires
tell-requires g c = record {
  shown = λ is heard. may_tell (g.W.Watch.seen c.args.watch.now) c.args.self.now (g.M.Media.disk c.args.media.now) c.requires.watched c.play_on-went.new.self (g.M.Media.disk c.play_on-went.new.media) turns.Look (λ opening events told h. (Look, c.play_on-went.ensures.looked.done opening events _ h, λ works. refl))
      (sym c.failed.ensures ∙ not_is c.failed.result is) heard;
}

pub returns-clause-told : goal.returns-clause-told
returns-clause-told g c = λ opening events t0 h.
    done_told opening events t0 Look c.play_on-went.new.self (g.M.Media.disk c.args.media.now) (g.M.Media.disk c.play_on-went.new.media) (c.play_on-went.ensures.looked.done opening events t0 h) turns.Look (g.W.Watch.seen c.args.watch.now) (g.W.Watch.seen c.tell.new.watch) (not c.failed.result)
    (ap not (sym c.failed.ensures)) (λ works. refl) c.tell.ensures

pub returns-clause-watched : goal.returns-clause-watched
returns-clause-watched g c =
    still_watched (g.W.Watch.seen c.args.watch.now) c.args.self.now (g.M.Media.disk c.args.media.now) c.requires.watched c.play_on-went.new.self (g.M.Media.disk c.play_on-went.new.media) turns.Look (λ opening events told h. (Look, c.play_on-went.ensures.looked.done opening events _ h, λ works. refl)) (g.W.Watch.seen c.tell.new.watch)
    (not c.failed.result) (ap not (sym c.failed.ensures)) c.tell.ensures

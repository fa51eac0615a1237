use Rattle.std.proofs.Common.{◌≡◌, false, not, ⊎_elim, sym, ap, ◌∙◌, subst}
use Rattle.vdr_core.specs.Histories.Act.{Look}
use Rattle.vdr_recorder.specs.Recordings.{RecorderState}
use Rattle.vdr_recorder.specs.Watched.{PlainTurn, ShowsTold, told_if, turn_of_release, with_turn}
use Rattle.vdr_recorder.proofs.Telling.{done_told, may_tell}
use Rattle.vdr_recorder.proofs.Watching.{by_failed, goes_before, not_is, release_called, released_did, unreleased_did, watched_by}
use Rattle.vdr_recorder.proofs.recorder.Recorder.release_watched.Goals as goal

pub tell-requires : goal.tell-requires
tell-requires g c = record {
  shown = λ is heard.
      let goes : c.release-released.new.self.vault.failed ≡ false = sym c.failed.ensures ∙ not_is c.failed.result is in
      let works : c.args.self.now.vault.failed ≡ false = goes_before (λ fails. ap (λ (r : RecorderState). r.vault.failed) (c.release-released.ensures.refuses.failed fails).1 ∙ fails) goes in
      subst (λ (did : PlainTurn). ShowsTold (with_turn (g.W.Watch.seen c.args.watch.now) did (g.M.Media.disk c.release-released.new.media).clock) (g.M.Media.disk c.release-released.new.media)) (sym c.turn_of_release-did.ensures)
      (may_tell (g.W.Watch.seen c.args.watch.now) c.args.self.now (g.M.Media.disk c.args.media.now) c.requires.watched c.release-released.new.self (g.M.Media.disk c.release-released.new.media) (turn_of_release c.release-released.result c.args.id) (release_called c.args.id _ c.args.self.now (g.M.Media.disk c.args.media.now) c.release-released.new.self (g.M.Media.disk c.release-released.new.media) c.release-released.result works c.release-released.ensures.event.released c.release-released.ensures.event.looked (λ none. (c.release-released.ensures.refuses.refused works none).0) (λ is. (c.release-released.ensures.refuses.reason is).1) c.release-released.ensures.failing.fails) goes heard);
}

pub returns-clause-event : goal.returns-clause-event
returns-clause-event g c =
    let told : g.W.Watch.hears → g.W.Watch.seen c.tell.new.watch ≡ told_if (not c.failed.result) (turn_of_release c.release-released.result c.args.id) (g.M.Media.disk c.release-released.new.media).clock (g.W.Watch.seen c.args.watch.now) =
    λ heard. c.tell.ensures heard ∙ ap (λ (did : PlainTurn). told_if (not c.failed.result) did (g.M.Media.disk c.release-released.new.media).clock (g.W.Watch.seen c.args.watch.now)) c.turn_of_release-did.ensures in
    record {
      released = λ opening events t0 saved tells works some h.
          done_told opening events t0 _ c.release-released.new.self (g.M.Media.disk c.args.media.now) (g.M.Media.disk c.release-released.new.media) (c.release-released.ensures.event.released opening events t0 saved tells works some h) (turn_of_release c.release-released.result c.args.id) (g.W.Watch.seen c.args.watch.now) _ (not c.failed.result)
          (ap not (sym c.failed.ensures)) (λ goes. released_did c.args.id t0 c.args.self.now (g.M.Media.disk c.args.media.now) c.release-released.new.self (g.M.Media.disk c.release-released.new.media) c.release-released.result works c.release-released.ensures.event.released c.release-released.ensures.event.looked (λ none. (c.release-released.ensures.refuses.refused works none).0) (λ is. (c.release-released.ensures.refuses.reason is).1) c.release-released.ensures.failing.fails opening events saved some goes) told;
      looked = λ opening events t0 why h.
          done_told opening events t0 Look c.release-released.new.self (g.M.Media.disk c.args.media.now) (g.M.Media.disk c.release-released.new.media) (c.release-released.ensures.event.looked opening events t0 why h) (turn_of_release c.release-released.result c.args.id) (g.W.Watch.seen c.args.watch.now) _ (not c.failed.result) (ap not (sym c.failed.ensures))
          (λ goes. ⊎_elim (λ fails. unreleased_did opening events c.args.id c.release-released.result _ (c.release-released.ensures.refuses.failed fails).0)
          (λ none. by_failed (λ fails. unreleased_did opening events c.args.id c.release-released.result _ (c.release-released.ensures.refuses.failed fails).0)
          (λ works. unreleased_did opening events c.args.id c.release-released.result _ (c.release-released.ensures.refuses.refused works none).0)) why) told;
    }

pub returns-clause-watched : goal.returns-clause-watched
returns-clause-watched g c =
    watched_by (g.W.Watch.seen c.args.watch.now) c.args.self.now (g.M.Media.disk c.args.media.now) c.requires.watched c.release-released.new.self (g.M.Media.disk c.release-released.new.media) (g.W.Watch.seen c.tell.new.watch) (turn_of_release c.release-released.result c.args.id) (not c.failed.result) (ap not (sym c.failed.ensures))
    (λ heard. c.tell.ensures heard ∙ ap (λ (did : PlainTurn). told_if (not c.failed.result) did (g.M.Media.disk c.release-released.new.media).clock (g.W.Watch.seen c.args.watch.now)) c.turn_of_release-did.ensures)
    (λ fails. let s = c.release-released.ensures.refuses.failed fails in (s.1, ap g.M.Media.disk s.2)) (λ works. release_called c.args.id _ c.args.self.now (g.M.Media.disk c.args.media.now) c.release-released.new.self (g.M.Media.disk c.release-released.new.media) c.release-released.result works c.release-released.ensures.event.released c.release-released.ensures.event.looked (λ none. (c.release-released.ensures.refuses.refused works none).0) (λ is. (c.release-released.ensures.refuses.reason is).1) c.release-released.ensures.failing.fails)

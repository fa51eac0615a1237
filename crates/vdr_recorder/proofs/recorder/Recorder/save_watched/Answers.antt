use Rattle.std.proofs.Common.{◌≡◌, false, not, ⊎_elim, sym, ap, ◌∙◌, subst}
use Rattle.vdr_core.specs.Histories.Act.{Look}
use Rattle.vdr_recorder.specs.Recordings.{RecorderState}
use Rattle.vdr_recorder.specs.Watched.{PlainTurn, ShowsTold, told_if, turn_of_save, with_turn}
use Rattle.vdr_recorder.proofs.Telling.{done_told, may_tell}
use Rattle.vdr_recorder.proofs.Watching.{by_failed, goes_before, not_is, refused_did, save_called, saved_did, watched_by}
use Rattle.vdr_recorder.proofs.recorder.Recorder.save_watched.Goals as goal

pub tell-requires : goal.tell-requires
tell-requires g c = record {
  shown = λ is heard.
      let goes : c.save-saved.new.self.vault.failed ≡ false = sym c.failed.ensures ∙ not_is c.failed.result is in
      let works : c.args.self.now.vault.failed ≡ false = goes_before (λ fails. ap (λ (r : RecorderState). r.vault.failed) (c.save-saved.ensures.refuses.failed fails).1 ∙ fails) goes in
      subst (λ (did : PlainTurn). ShowsTold (with_turn (g.W.Watch.seen c.args.watch.now) did (g.M.Media.disk c.save-saved.new.media).clock) (g.M.Media.disk c.save-saved.new.media)) (sym c.turn_of_save-did.ensures)
      (may_tell (g.W.Watch.seen c.args.watch.now) c.args.self.now (g.M.Media.disk c.args.media.now) c.requires.watched c.save-saved.new.self (g.M.Media.disk c.save-saved.new.media) (turn_of_save c.save-saved.result c.args.label.now) (save_called c.args.label.now _ c.args.self.now (g.M.Media.disk c.args.media.now) c.save-saved.new.self (g.M.Media.disk c.save-saved.new.media) c.save-saved.result works c.save-saved.ensures.event.saved c.save-saved.ensures.event.looked c.save-saved.ensures.event.met_damage (λ refused works some. (c.save-saved.ensures.refuses.refused refused works some).0) (λ refused is which. (c.save-saved.ensures.refuses.reason refused is which).1) c.save-saved.ensures.failing.fails) goes heard);
}

pub returns-clause-event : goal.returns-clause-event
returns-clause-event g c =
    let told : g.W.Watch.hears → g.W.Watch.seen c.tell.new.watch ≡ told_if (not c.failed.result) (turn_of_save c.save-saved.result c.args.label.now) (g.M.Media.disk c.save-saved.new.media).clock (g.W.Watch.seen c.args.watch.now) =
    λ heard. c.tell.ensures heard ∙ ap (λ (did : PlainTurn). told_if (not c.failed.result) did (g.M.Media.disk c.save-saved.new.media).clock (g.W.Watch.seen c.args.watch.now)) c.turn_of_save-did.ensures in
    record {
      saved = λ opening events t0 tells works none whole h.
          let s = c.save-saved.ensures.event.saved opening events t0 tells works none whole h in (
            s.0,
            s.1,
            s.2,
            s.3,
            done_told opening events t0 _ c.save-saved.new.self (g.M.Media.disk c.args.media.now) (g.M.Media.disk c.save-saved.new.media) s.4 (turn_of_save c.save-saved.result c.args.label.now) (g.W.Watch.seen c.args.watch.now) _ (not c.failed.result) (ap not (sym c.failed.ensures))
                (λ goes. saved_did c.args.label.now t0 c.args.self.now (g.M.Media.disk c.args.media.now) c.save-saved.new.self (g.M.Media.disk c.save-saved.new.media) c.save-saved.result works c.save-saved.ensures.event.saved c.save-saved.ensures.event.looked c.save-saved.ensures.event.met_damage (λ refused works some. (c.save-saved.ensures.refuses.refused refused works some).0) (λ refused is which. (c.save-saved.ensures.refuses.reason refused is which).1) c.save-saved.ensures.failing.fails opening events s.0 s.1 s.2 s.4 none whole goes) told,
          );
      looked = λ opening events t0 refused why h.
          done_told opening events t0 Look c.save-saved.new.self (g.M.Media.disk c.args.media.now) (g.M.Media.disk c.save-saved.new.media) (c.save-saved.ensures.event.looked opening events t0 refused why h) (turn_of_save c.save-saved.result c.args.label.now) (g.W.Watch.seen c.args.watch.now) _ (not c.failed.result) (ap not (sym c.failed.ensures))
          (λ goes. ⊎_elim (λ fails. refused_did opening events c.args.label.now c.save-saved.result _ (c.save-saved.ensures.refuses.failed fails).0)
          (λ some. by_failed (λ fails. refused_did opening events c.args.label.now c.save-saved.result _ (c.save-saved.ensures.refuses.failed fails).0)
          (λ works. refused_did opening events c.args.label.now c.save-saved.result _ (c.save-saved.ensures.refuses.refused refused works some).0)) why) told;
      met_damage = λ opening events t0 m offset tells is h.
          done_told opening events t0 Look c.save-saved.new.self (g.M.Media.disk c.args.media.now) (g.M.Media.disk c.save-saved.new.media) (c.save-saved.ensures.event.met_damage opening events t0 m offset tells is h) (turn_of_save c.save-saved.result c.args.label.now) (g.W.Watch.seen c.args.watch.now) _ (not c.failed.result) (ap not (sym c.failed.ensures))
          (λ goes. refused_did opening events c.args.label.now c.save-saved.result _ is) told;
    }

pub returns-clause-watched : goal.returns-clause-watched
returns-clause-watched g c =
    watched_by (g.W.Watch.seen c.args.watch.now) c.args.self.now (g.M.Media.disk c.args.media.now) c.requires.watched c.save-saved.new.self (g.M.Media.disk c.save-saved.new.media) (g.W.Watch.seen c.tell.new.watch) (turn_of_save c.save-saved.result c.args.label.now) (not c.failed.result) (ap not (sym c.failed.ensures))
    (λ heard. c.tell.ensures heard ∙ ap (λ (did : PlainTurn). told_if (not c.failed.result) did (g.M.Media.disk c.save-saved.new.media).clock (g.W.Watch.seen c.args.watch.now)) c.turn_of_save-did.ensures)
    (λ fails. let s = c.save-saved.ensures.refuses.failed fails in (s.1, ap g.M.Media.disk s.2)) (λ works. save_called c.args.label.now _ c.args.self.now (g.M.Media.disk c.args.media.now) c.save-saved.new.self (g.M.Media.disk c.save-saved.new.media) c.save-saved.result works c.save-saved.ensures.event.saved c.save-saved.ensures.event.looked c.save-saved.ensures.event.met_damage (λ refused works some. (c.save-saved.ensures.refuses.refused refused works some).0) (λ refused is which. (c.save-saved.ensures.refuses.reason refused is which).1) c.save-saved.ensures.failing.fails)

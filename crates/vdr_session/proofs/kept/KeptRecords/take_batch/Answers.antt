use Rattle.std.proofs.Common.{◌≡◌, ◌⊎◌, inl, inr, ◌++◌, true, false, ℕ, List, [], ◌∷◌, ◌∙◌, Option, All, sym, ap, subst, arith}
use Rattle.std.proofs.lemmas.Bool.{cases_Bool}
use Rattle.std.proofs.lemmas.List.{length-append}
use Rattle.vdr_terms.specs.declared.rate.Rate.{Rate}
use Rattle.vdr_terms.specs.Rates.{is_configured}
use Rattle.vdr_core.specs.Taken.{Captured}
use Rattle.vdr_config.specs.Sizes.{limits_in}
use Rattle.std.specs.Prelude.{sum}
use Rattle.vdr_outside.specs.Causes.{Rose}
use Rattle.vdr_recorder.proofs.Batches.{numbers_append}
use Rattle.vdr_run.specs.Sizes.{FitAfter}
use Rattle.vdr_session.proofs.LanesFed.{all_behind}
use Rattle.vdr_session.proofs.Numbered.{items_few, numbers_small}
use Rattle.vdr_session.specs.Standing.{IsKept, batch_mark}
use Rattle.vdr_session.specs.declared.mark.Mark.{Mark}
use Rattle.vdr_session.proofs.MarkLemmas.{mark_is, rose_of}
use Rattle.vdr_recorder.specs.Recordings.{RecorderState}
use Rattle.vdr_recorder.proofs.Telling.{untold_err}
use Rattle.vdr_session.specs.Marks.{is_begun, taken_in}
use Rattle.vdr_session.proofs.Tallied.{tallied_batch}
use Rattle.vdr_session.proofs.Steps.{batch_kept, batch_look_kept, untold_look}
use Rattle.vdr_session.proofs.kept.KeptRecords.take_batch.Goals as goal

pub take_batch_watched-requires-clause-fits : goal.take_batch_watched-requires-clause-fits
take_batch_watched-requires-clause-fits g c =
    let popped = c.requires.0 in
    record {
      short = record {
        start = c.requires.1.makes.0;
        popped = popped;
        makes = c.requires.1.makes.1;
        fit = subst (λ (x : List (Option Rate) × ℕ). FitAfter (limits_in x.0) popped c.args.items.now x.1) (λ i. (sym c.requires.1.rates_are i, sym c.requires.1.room_is i)) c.requires.2.short;
      };
      configured = subst (λ (rates : List (Option Rate)). All (λ (x : Captured). is_configured (limits_in rates x.group) ≡ true) c.args.items.now) (sym c.requires.1.rates_are)
          (all_behind (λ (x : Captured). is_configured (limits_in g.O.Lent.rates x.group) ≡ true) popped c.args.items.now c.requires.2.known);
      places =
          let place = c.requires.1.place in
          let few = items_few g.O.Lent.rates (popped ++ c.args.items.now) c.requires.1.sixteen c.requires.2.known c.requires.2.runs in
          let l = length-append popped c.args.items.now in
          omega (arith, place, few, l);
      numbers = λ n small.
          let number = c.requires.1.numbers n small in
          let few = numbers_small n (popped ++ c.args.items.now) (c.requires.2.runs n) in
          let a = numbers_append n popped c.args.items.now in
          omega (arith, number, few, a);
    }

pub returns-clause-leaves : goal.returns-clause-leaves
returns-clause-leaves g c = λ history h. (by_failed history h.0 (cases_Bool c.args.self.now.recorder.vault.failed), h.1, h.2, tallied_batch history c.args.self.now.recorder.vault.failed c.failed.result c.args.items.now _ _ c.take_unless.new.self c.failed.ensures (c.take_unless.ensures (is_begun history) (taken_in history) h.3))
  where
    by_failed : (history : List Mark) → (k : IsKept (record { clock = g.O.Lent.clock; now = g.O.Lent.now; since = g.O.Lent.since; until = g.O.Lent.until; reads = g.O.Lent.reads; channels = g.O.Lent.channels; hears = g.W.Watch.hears; heard = g.O.Lent.heard }) g.O.Lent.began g.O.Lent.rates g.O.Lent.room g.O.Lent.sizes g.O.Lent.faults history (g.W.Watch.seen c.args.self.now.watch.now) c.args.self.now.recorder
        (g.M.Media.disk c.args.self.now.media.now) (g.M.Media.faults c.args.self.now.media.now))
        → (c.args.self.now.recorder.vault.failed ≡ true) ⊎ (c.args.self.now.recorder.vault.failed ≡ false)
        → IsKept (record { clock = g.O.Lent.clock; now = g.O.Lent.now; since = g.O.Lent.since; until = g.O.Lent.until; reads = g.O.Lent.reads; channels = g.O.Lent.channels; hears = g.W.Watch.hears; heard = g.O.Lent.heard }) g.O.Lent.began g.O.Lent.rates g.O.Lent.room g.O.Lent.sizes g.O.Lent.faults
        (history ++ batch_mark c.args.self.now.recorder.vault.failed c.args.items.now c.take_batch_watched.new.self.vault.failed (g.M.Media.disk c.take_batch_watched.new.media).clock ∷ []) (g.W.Watch.seen c.take_batch_watched.new.watch) c.take_batch_watched.new.self
        (g.M.Media.disk c.take_batch_watched.new.media) (g.M.Media.faults c.take_batch_watched.new.media)
    by_failed history k (inl fails) =
        let same = c.take_batch_watched.ensures.failing.failed fails in
        batch_look_kept (record { clock = g.O.Lent.clock; now = g.O.Lent.now; since = g.O.Lent.since; until = g.O.Lent.until; reads = g.O.Lent.reads; channels = g.O.Lent.channels; hears = g.W.Watch.hears; heard = g.O.Lent.heard }) g.O.Lent.began g.O.Lent.rates g.O.Lent.room g.O.Lent.sizes g.O.Lent.faults history (g.W.Watch.seen c.args.self.now.watch.now) c.args.self.now.recorder
        (g.M.Media.disk c.args.self.now.media.now) (g.M.Media.faults c.args.self.now.media.now) k c.args.items.now fails (g.W.Watch.seen c.take_batch_watched.new.watch) c.take_batch_watched.new.self
        (g.M.Media.disk c.take_batch_watched.new.media) (g.M.Media.faults c.take_batch_watched.new.media)
        same.1 (ap g.M.Media.disk same.2) (ap g.M.Media.faults same.2) c.take_batch_watched.ensures.watched
        (untold_look _ _ _ _ (ap (λ (r : RecorderState). r.vault.failed) same.1 ∙ fails) (untold_err c.take_batch_watched.result same.0 c.take_batch_watched.ensures.untold))
    by_failed history k (inr works) =
        let e = c.take_batch_watched.ensures in
        batch_kept (record { clock = g.O.Lent.clock; now = g.O.Lent.now; since = g.O.Lent.since; until = g.O.Lent.until; reads = g.O.Lent.reads; channels = g.O.Lent.channels; hears = g.W.Watch.hears; heard = g.O.Lent.heard }) g.O.Lent.began g.O.Lent.rates g.O.Lent.room g.O.Lent.sizes g.O.Lent.faults history (g.W.Watch.seen c.args.self.now.watch.now) c.args.self.now.recorder
        (g.M.Media.disk c.args.self.now.media.now) (g.M.Media.faults c.args.self.now.media.now) k (g.W.Watch.seen c.take_batch_watched.new.watch) c.take_batch_watched.new.self
        (g.M.Media.disk c.take_batch_watched.new.media) (g.M.Media.faults c.take_batch_watched.new.media) e.watched
        (record {
          config = e.goes_on.config;
          rings = e.goes_on.rings;
          sizes = e.writes.sizes;
          later = e.writes.cause.later;
          rose = λ fails. rose_of c.take_batch_watched.result c.take_batch_watched.new.self.vault.failed
              ((c.args.self.now.recorder.vault.failed ≡ true) ⊎ Rose (sum (g.M.Media.faults c.args.self.now.media.now)) (sum (g.M.Media.faults c.take_batch_watched.new.media)))
              e.failing.works e.writes.cause.in_all fails;
          elsewhere = e.writes.others;
        })
        works c.args.items.now c.requires.1.open_is e.goes_on.stays_open (e.goes_on.makes works) e.goes_on.places e.goes_on.numbers (λ opening events t0 told has. e.taken opening events t0 told works has)

pub returns-clause-mark : goal.returns-clause-mark
returns-clause-mark g c = mark_is c.args.items.now c.args.self.now.recorder.vault.failed c.take_batch_watched.new.self.vault.failed (g.M.Media.disk c.take_batch_watched.new.media).clock c.take_batch_watched.result c.is_ok.result
    c.is_ok.ensures.value (λ fails. (c.take_batch_watched.ensures.failing.failed fails).0) c.take_batch_watched.ensures.failing.works c.take_batch_watched.ensures.failing.fails

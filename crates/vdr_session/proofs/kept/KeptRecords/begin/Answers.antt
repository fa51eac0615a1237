use Rattle.std.proofs.Common.{◌≡◌, ◌⊎◌, inl, inr, ◌++◌, ◌<◌, ◌≤◌, ◌^◌, ℕ, Bool, true, false, true≢false, List, [], ◌∷◌, Result, Ok, Err, option_map, sym, refl, ap, ◌∙◌, arith}
use Rattle.std.proofs.lemmas.Bool.{cases_Bool}
use Rattle.vdr_recorder.specs.declared.run.StartRefused.{StartRefused}
use Rattle.vdr_recorder.specs.declared.run.StartRefused.TheVariants.{Place, Tick, Fault}
use Rattle.vdr_recorder.specs.Refusals.{MayBegin}
use Rattle.vdr_core.specs.Histories.{Opening}
use Rattle.vdr_core.specs.Runs.{base_after}
use Rattle.vdr_session.specs.Events.{is_started}
use Rattle.vdr_session.specs.Standing.{Before, HasSession, IsKept, IsNoRefusal, start_mark}
use Rattle.vdr_session.specs.declared.records.Began.TheVariants as began
use Rattle.vdr_session.specs.declared.records.Began.TheVariants.{Begun}
use Rattle.vdr_run.specs.Starts.{stamp_of}
use Rattle.vdr_session.proofs.Starts.{may_begin}
use Rattle.vdr_session.specs.declared.mark.Mark.{Mark}
use Rattle.vdr_recorder.specs.Recordings.{RecorderState}
use Rattle.vdr_recorder.proofs.Telling.{look_from}
use Rattle.vdr_session.specs.Marks.{is_begun, taken_in}
use Rattle.vdr_session.specs.Tallied.{IsTallied}
use Rattle.vdr_session.proofs.Tallied.{tallied_fault, tallied_refused, tallied_start}
use Rattle.vdr_session.proofs.Steps.{start_kept, start_look_kept, untold_look}
use Rattle.vdr_session.proofs.kept.KeptRecords.begin.Goals as goal

ok_no_fault : {T : Type 0} (x : T) (e : StartRefused) → Ok x ≡ Err e → ⊥
ok_no_fault x e is = cc

fault_is_not : {T : Type 0} (x y : StartRefused) → x ≡ Fault → (Fault ≡ y → ⊥) → ◌≡◌ {A = Result T StartRefused} (Err x) (Err y) → ⊥
fault_is_not {T} x y is other e = other (sym is ∙ same x y e)
  where
    same : (x y : StartRefused) → ◌≡◌ {A = Result T StartRefused} (Err x) (Err y) → x ≡ y
    same x y e = cc

not_place : Fault ≡ Place → ⊥
not_place e = cc

not_tick : Fault ≡ Tick → ⊥
not_tick e = cc

pub returns-in-Ok-clause-leaves : goal.returns-in-Ok-clause-leaves
returns-in-Ok-clause-leaves g c = λ history h. (by_failed history h.0 (cases_Bool c.args.self.now.recorder.vault.failed), h.1, h.2, tallied history h.3 (cases_Bool c.args.self.now.recorder.vault.failed))
  where
    by_failed : (history : List Mark) → IsKept (record { clock = g.O.Lent.clock; now = g.O.Lent.now; since = g.O.Lent.since; until = g.O.Lent.until; reads = g.O.Lent.reads; channels = g.O.Lent.channels; hears = g.W.Watch.hears; heard = g.O.Lent.heard }) g.O.Lent.began g.O.Lent.rates g.O.Lent.room g.O.Lent.sizes g.O.Lent.faults history (g.W.Watch.seen c.args.self.now.watch.now)
        c.args.self.now.recorder (g.M.Media.disk c.args.self.now.media.now) (g.M.Media.faults c.args.self.now.media.now)
        → (c.args.self.now.recorder.vault.failed ≡ true) ⊎ (c.args.self.now.recorder.vault.failed ≡ false)
        → IsKept (record { clock = g.O.Lent.clock; now = g.O.Lent.now; since = g.O.Lent.since; until = g.O.Lent.until; reads = g.O.Lent.reads; channels = g.O.Lent.channels; hears = g.W.Watch.hears; heard = g.O.Lent.heard }) g.O.Lent.began g.O.Lent.rates g.O.Lent.room g.O.Lent.sizes g.O.Lent.faults (history ++ start_mark c.args.self.now.recorder c.start_watched.new.self (g.M.Media.disk c.start_watched.new.media).clock ∷ []) (g.W.Watch.seen c.start_watched.new.watch)
        c.start_watched.new.self (g.M.Media.disk c.start_watched.new.media) (g.M.Media.faults c.start_watched.new.media)
    by_failed history k (inl fails) = absurd (ok_no_fault c.in-Ok.field-0 Fault (c.in-Ok.ensures.refuses.failed fails).0)
    by_failed history k (inr works) =
        start_kept (record { clock = g.O.Lent.clock; now = g.O.Lent.now; since = g.O.Lent.since; until = g.O.Lent.until; reads = g.O.Lent.reads; channels = g.O.Lent.channels; hears = g.W.Watch.hears; heard = g.O.Lent.heard }) g.O.Lent.began g.O.Lent.rates g.O.Lent.room g.O.Lent.sizes g.O.Lent.faults history
        (g.W.Watch.seen c.args.self.now.watch.now) c.args.self.now.recorder (g.M.Media.disk c.args.self.now.media.now) (g.M.Media.faults c.args.self.now.media.now) k
        (g.W.Watch.seen c.start_watched.new.watch) c.start_watched.new.self (g.M.Media.disk c.start_watched.new.media) (g.M.Media.faults c.start_watched.new.media) c.in-Ok.ensures.watched
        (record {
          config = c.in-Ok.ensures.begins.config;
          rings = c.in-Ok.ensures.begins.rings;
          sizes = c.in-Ok.ensures.writes.sizes;
          later = c.in-Ok.ensures.writes.cause.later;
          rose = λ fails. absurd (true≢false (sym fails ∙ c.in-Ok.ensures.begins.works));
          elsewhere = c.in-Ok.ensures.writes.others;
        })
        works c.requires.closed (inl c.in-Ok.ensures.begins.opens) (λ goes. (c.in-Ok.ensures.begins.opens, c.in-Ok.ensures.begins.numbers.0, c.in-Ok.ensures.begins.numbers.1, c.in-Ok.ensures.begins.makes))
        (λ opening events t0 told has. c.in-Ok.ensures.started opening events t0 told works has (ok_no_fault c.in-Ok.field-0 Place) (ok_no_fault c.in-Ok.field-0 Tick))

    tallied : (history : List Mark) → IsTallied history c.args.self.now.tally → (c.args.self.now.recorder.vault.failed ≡ true) ⊎ (c.args.self.now.recorder.vault.failed ≡ false)
        → IsTallied (history ++ start_mark c.args.self.now.recorder c.start_watched.new.self (g.M.Media.disk c.start_watched.new.media).clock ∷ []) c.begin.new.self
    tallied history t (inl fails) = absurd (ok_no_fault c.in-Ok.field-0 Fault (c.in-Ok.ensures.refuses.failed fails).0)
    tallied history t (inr works) = tallied_start history c.args.self.now.recorder c.start_watched.new.self _ c.begin.new.self works c.in-Ok.ensures.begins.opens c.in-Ok.ensures.begins.works
        (c.begin.ensures (is_begun history) (taken_in history) t)

pub returns-in-Err-Place-clause-leaves : goal.returns-in-Err-Place-clause-leaves
returns-in-Err-Place-clause-leaves g c = λ history h.
    let same = c.in-Err-Place.ensures.refuses.refused (inl (ap Err c.in-Err-Place.field-0-is)) in (
      start_look_kept (record { clock = g.O.Lent.clock; now = g.O.Lent.now; since = g.O.Lent.since; until = g.O.Lent.until; reads = g.O.Lent.reads; channels = g.O.Lent.channels; hears = g.W.Watch.hears; heard = g.O.Lent.heard }) g.O.Lent.began g.O.Lent.rates g.O.Lent.room g.O.Lent.sizes g.O.Lent.faults history
          (g.W.Watch.seen c.args.self.now.watch.now) c.args.self.now.recorder (g.M.Media.disk c.args.self.now.media.now) (g.M.Media.faults c.args.self.now.media.now) h.0
          c.requires.closed (g.W.Watch.seen c.look_watched.new.watch) c.start_watched.new.self (g.M.Media.disk c.start_watched.new.media) (g.M.Media.faults c.start_watched.new.media)
          same.0 (ap g.M.Media.disk same.1) (ap g.M.Media.faults same.1) c.look_watched.ensures.watched
          (λ opening events t0 h. look_from (c.in-Err-Place.ensures.untold) (c.look_watched.ensures.told opening events t0 h)),
      h.1,
      h.2,
      tallied_refused history c.args.self.now.recorder c.start_watched.new.self _ c.args.self.now.tally same.0 c.requires.closed h.3,
    )

pub returns-in-Err-Tick-clause-leaves : goal.returns-in-Err-Tick-clause-leaves
returns-in-Err-Tick-clause-leaves g c = λ history h.
    let same = c.in-Err-Tick.ensures.refuses.refused (inr (ap Err c.in-Err-Tick.field-0-is)) in (
      start_look_kept (record { clock = g.O.Lent.clock; now = g.O.Lent.now; since = g.O.Lent.since; until = g.O.Lent.until; reads = g.O.Lent.reads; channels = g.O.Lent.channels; hears = g.W.Watch.hears; heard = g.O.Lent.heard }) g.O.Lent.began g.O.Lent.rates g.O.Lent.room g.O.Lent.sizes g.O.Lent.faults history
          (g.W.Watch.seen c.args.self.now.watch.now) c.args.self.now.recorder (g.M.Media.disk c.args.self.now.media.now) (g.M.Media.faults c.args.self.now.media.now) h.0
          c.requires.closed (g.W.Watch.seen c.look_watched-in-Err-Tick.new.watch) c.start_watched.new.self (g.M.Media.disk c.start_watched.new.media) (g.M.Media.faults c.start_watched.new.media)
          same.0 (ap g.M.Media.disk same.1) (ap g.M.Media.faults same.1) c.look_watched-in-Err-Tick.ensures.watched
          (λ opening events t0 h. look_from (c.in-Err-Tick.ensures.untold) (c.look_watched-in-Err-Tick.ensures.told opening events t0 h)),
      h.1,
      h.2,
      tallied_refused history c.args.self.now.recorder c.start_watched.new.self _ c.args.self.now.tally same.0 c.requires.closed h.3,
    )

pub returns-in-Err-Fault-clause-leaves : goal.returns-in-Err-Fault-clause-leaves
returns-in-Err-Fault-clause-leaves g c = λ history h. (by_failed history h.0 (cases_Bool c.args.self.now.recorder.vault.failed), h.1, h.2, tallied_fault history c.args.self.now.recorder c.start_watched.new.self _ c.args.self.now.tally (fails_after (cases_Bool c.args.self.now.recorder.vault.failed)) h.3)
  where
    by_failed : (history : List Mark) → IsKept (record { clock = g.O.Lent.clock; now = g.O.Lent.now; since = g.O.Lent.since; until = g.O.Lent.until; reads = g.O.Lent.reads; channels = g.O.Lent.channels; hears = g.W.Watch.hears; heard = g.O.Lent.heard }) g.O.Lent.began g.O.Lent.rates g.O.Lent.room g.O.Lent.sizes g.O.Lent.faults history (g.W.Watch.seen c.args.self.now.watch.now)
        c.args.self.now.recorder (g.M.Media.disk c.args.self.now.media.now) (g.M.Media.faults c.args.self.now.media.now)
        → (c.args.self.now.recorder.vault.failed ≡ true) ⊎ (c.args.self.now.recorder.vault.failed ≡ false)
        → IsKept (record { clock = g.O.Lent.clock; now = g.O.Lent.now; since = g.O.Lent.since; until = g.O.Lent.until; reads = g.O.Lent.reads; channels = g.O.Lent.channels; hears = g.W.Watch.hears; heard = g.O.Lent.heard }) g.O.Lent.began g.O.Lent.rates g.O.Lent.room g.O.Lent.sizes g.O.Lent.faults (history ++ start_mark c.args.self.now.recorder c.start_watched.new.self (g.M.Media.disk c.start_watched.new.media).clock ∷ []) (g.W.Watch.seen c.start_watched.new.watch)
        c.start_watched.new.self (g.M.Media.disk c.start_watched.new.media) (g.M.Media.faults c.start_watched.new.media)
    by_failed history k (inl fails) =
        let same = c.in-Err-Fault.ensures.refuses.failed fails in
        start_look_kept (record { clock = g.O.Lent.clock; now = g.O.Lent.now; since = g.O.Lent.since; until = g.O.Lent.until; reads = g.O.Lent.reads; channels = g.O.Lent.channels; hears = g.W.Watch.hears; heard = g.O.Lent.heard }) g.O.Lent.began g.O.Lent.rates g.O.Lent.room g.O.Lent.sizes g.O.Lent.faults history
        (g.W.Watch.seen c.args.self.now.watch.now) c.args.self.now.recorder (g.M.Media.disk c.args.self.now.media.now) (g.M.Media.faults c.args.self.now.media.now) k
        c.requires.closed (g.W.Watch.seen c.start_watched.new.watch) c.start_watched.new.self (g.M.Media.disk c.start_watched.new.media) (g.M.Media.faults c.start_watched.new.media)
        same.1 (ap g.M.Media.disk same.2) (ap g.M.Media.faults same.2) c.in-Err-Fault.ensures.watched
        (untold_look _ _ _ _ (ap (λ (r : RecorderState). r.vault.failed) same.1 ∙ fails) c.in-Err-Fault.ensures.untold)
    by_failed history k (inr works) =
        let is : Err c.in-Err-Fault.field-0 ≡ Err Fault = ap Err c.in-Err-Fault.field-0-is in
        let fails = c.in-Err-Fault.ensures.begins.fails is in
        start_kept (record { clock = g.O.Lent.clock; now = g.O.Lent.now; since = g.O.Lent.since; until = g.O.Lent.until; reads = g.O.Lent.reads; channels = g.O.Lent.channels; hears = g.W.Watch.hears; heard = g.O.Lent.heard }) g.O.Lent.began g.O.Lent.rates g.O.Lent.room g.O.Lent.sizes g.O.Lent.faults history
        (g.W.Watch.seen c.args.self.now.watch.now) c.args.self.now.recorder (g.M.Media.disk c.args.self.now.media.now) (g.M.Media.faults c.args.self.now.media.now) k
        (g.W.Watch.seen c.start_watched.new.watch) c.start_watched.new.self (g.M.Media.disk c.start_watched.new.media) (g.M.Media.faults c.start_watched.new.media) c.in-Err-Fault.ensures.watched
        (record {
          config = c.in-Err-Fault.ensures.begins.config;
          rings = c.in-Err-Fault.ensures.begins.rings;
          sizes = c.in-Err-Fault.ensures.writes.sizes;
          later = c.in-Err-Fault.ensures.writes.cause.later;
          rose = λ _. c.in-Err-Fault.ensures.writes.cause.in_all is;
          elsewhere = c.in-Err-Fault.ensures.writes.others;
        })
        works c.requires.closed (inr fails) (λ goes. absurd (true≢false (sym fails ∙ goes)))
        (λ opening events t0 told has. c.in-Err-Fault.ensures.started opening events t0 told works has (fault_is_not c.in-Err-Fault.field-0 Place c.in-Err-Fault.field-0-is not_place) (fault_is_not c.in-Err-Fault.field-0 Tick c.in-Err-Fault.field-0-is not_tick))

    fails_after : (c.args.self.now.recorder.vault.failed ≡ true) ⊎ (c.args.self.now.recorder.vault.failed ≡ false) → c.start_watched.new.self.vault.failed ≡ true
    fails_after (inl fails) = ap (λ (r : RecorderState). r.vault.failed) (c.in-Err-Fault.ensures.refuses.failed fails).1 ∙ fails
    fails_after (inr works) = c.in-Err-Fault.ensures.begins.fails (ap Err c.in-Err-Fault.field-0-is)

-- a start that was answered otherwise than by a fault found no fault before it
works_before : (failed : Bool) (e : StartRefused) (P : Type 0) → (failed ≡ true → ◌≡◌ {A = Result (Unit {0}) StartRefused} (Err e) (Err Fault)) → (Fault ≡ e → ⊥) → (failed ≡ false → P) → P
works_before true e P fault other goes = absurd (other (sym (same e Fault (fault refl))))
  where
    same : (x y : StartRefused) → ◌≡◌ {A = Result (Unit {0}) StartRefused} (Err x) (Err y) → x ≡ y
    same x y e = cc
works_before false e P fault other goes = goes refl

begun_is_no_refusal : (Begun ≡ began.Place) ⊎ (Begun ≡ began.Tick) → ⊥
begun_is_no_refusal (inl e) = cc
begun_is_no_refusal (inr e) = cc

fault_is_no_refusal : (began.Fault ≡ began.Place) ⊎ (began.Fault ≡ began.Tick) → ⊥
fault_is_no_refusal (inl e) = cc
fault_is_no_refusal (inr e) = cc

begun_is_none : IsNoRefusal Begun
begun_is_none = record { place = λ e. cc; tick = λ e. cc }

fault_is_none : IsNoRefusal began.Fault
fault_is_none = record { place = λ e. cc; tick = λ e. cc }

-- what the vault told before it is no refusal
low_place : (place : ℕ) → place < 2 ^ 62 → 2 ^ 62 ≤ place → ⊥
low_place place low high = omega (arith, low, high)

pub returns-in-Ok-clause-means : goal.returns-in-Ok-clause-means
returns-in-Ok-clause-means g c = λ history h idle. (
  (begun_is_none, λ told opening t0 b. by_failed (h.0.told told opening t0 b) idle (cases_Bool c.args.self.now.recorder.vault.failed)),
  (λ either. absurd (begun_is_no_refusal either)),
)
  where
    by_failed : {history : List Mark} {before : Before} {opening : Opening} {t0 : ℕ} → HasSession before opening history t0 c.args.self.now.recorder (g.M.Media.disk c.args.self.now.media.now) (g.W.Watch.seen c.args.self.now.watch.now) → is_started history ≡ false
        → (c.args.self.now.recorder.vault.failed ≡ true) ⊎ (c.args.self.now.recorder.vault.failed ≡ false) → MayBegin opening
    by_failed s idle (inl fails) = absurd (ok_no_fault c.in-Ok.field-0 Fault (c.in-Ok.ensures.refuses.failed fails).0)
    by_failed s idle (inr works) = may_begin s works idle (c.in-Ok.ensures.limits.place works) (c.in-Ok.ensures.limits.tick works) (ok_no_fault c.in-Ok.field-0 Place) (ok_no_fault c.in-Ok.field-0 Tick)

pub returns-in-Err-Place-clause-means : goal.returns-in-Err-Place-clause-means
returns-in-Err-Place-clause-means g c = λ history h idle.
    let before : (P : Type 0) → (c.args.self.now.recorder.vault.failed ≡ false → P) → P =
    λ P goes. works_before c.args.self.now.recorder.vault.failed c.in-Err-Place.field-0 P (λ fails. (c.in-Err-Place.ensures.refuses.failed fails).0) (λ e. not_place (e ∙ c.in-Err-Place.field-0-is)) goes in
    let none : ⊥ = before ⊥ (λ works. low_place c.args.self.now.recorder.vault.next_place (h.0.stage.ready idle).place ((c.in-Err-Place.ensures.limits.place works).0 (ap Err c.in-Err-Place.field-0-is))) in
    absurd none

pub returns-in-Err-Tick-clause-means : goal.returns-in-Err-Tick-clause-means
returns-in-Err-Tick-clause-means g c = λ history h idle.
    let before : (P : Type 0) → (c.args.self.now.recorder.vault.failed ≡ false → P) → P =
    λ P goes. works_before c.args.self.now.recorder.vault.failed c.in-Err-Tick.field-0 P (λ fails. (c.in-Err-Tick.ensures.refuses.failed fails).0) (λ e. not_tick (e ∙ c.in-Err-Tick.field-0-is)) goes in
    let none : ⊥ = before ⊥ (λ works. low_place (base_after (option_map stamp_of c.args.self.now.recorder.vault.last)) (h.0.stage.ready idle).base ((c.in-Err-Tick.ensures.limits.tick works).0 (ap Err c.in-Err-Tick.field-0-is)).1) in
    absurd none

pub returns-in-Err-Fault-clause-means : goal.returns-in-Err-Fault-clause-means
returns-in-Err-Fault-clause-means g c = λ history h idle. ((fault_is_none, λ told opening t0 b. tt), (λ either. absurd (fault_is_no_refusal either)))

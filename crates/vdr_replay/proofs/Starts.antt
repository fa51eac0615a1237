-- How a run begins, or is refused, and what it comes to.
use Rattle.std.proofs.Common.{◌≡◌, ◌⊎◌, ◌↔◌, inl, inr, ◌-◌, ◌<◌, ◌≤◌, ◌^◌, ℕ, ℤ, List, [], length, false, Option, option_map, Result, Ok, Err, ⊎_elim, sym, ap, ◌∙◌, subst, arith}
use Rattle.std.specs.Prelude.{OnErr}
use Rattle.std.proofs.lemmas.Bool.{cases_lt}
use Rattle.std.proofs.lemmas.List.Elements.{All-nil}
use Rattle.vdr_terms.specs.declared.rate.Rate.{Rate}
use Rattle.vdr_terms.specs.Records.{Record, FeedItem}
use Rattle.vdr_core.specs.Feed.{feed_records}
use Rattle.vdr_core.specs.Histories.{Opening}
use Rattle.vdr_core.specs.Histories.Act.{Commit}
use Rattle.vdr_core.specs.Recorder.{begun}
use Rattle.vdr_core.specs.RunStates.{next_start, state_left}
use Rattle.vdr_core.specs.Runs.{base_after}
use Rattle.vdr_durability.proofs.Whole.{whole_has_not_failed}
use Rattle.vdr_outside.specs.Disk.{Disk}
use Rattle.vdr_feed.specs.Reader.{Reading}
use Rattle.vdr_vault.specs.Vaults.{of_stamp}
use Rattle.vdr_recorder.specs.Recordings.{HasRecorded, Passes, RecorderState, start_of_opening}
use Rattle.vdr_run.specs.Starts.{stamp_of}
use Rattle.vdr_recorder.specs.declared.run.StartRefused.{StartRefused}
use Rattle.vdr_recorder.specs.declared.run.StartRefused.TheVariants as refusals
use Rattle.vdr_recorder.proofs.Continuing.{left_place}
use Rattle.vdr_recorder.specs.Refusals.{MayBegin}
use Rattle.vdr_recorder.proofs.Starting.{same_stamp}
use Rattle.vdr_config.specs.Configuration.{Configuration}
use Rattle.vdr_feed.specs.Reader.{IfKnown}
use Rattle.vdr_opening.specs.Media.{Contents, opening_of}
use Rattle.vdr_replay.specs.Answers.{Decides, RefusesRun}
use Rattle.vdr_replay.specs.Feeding.{AreConfigured, HasRate, ReadsFeed}
use Rattle.vdr_replay.specs.Ran.{DecidesRun, HasNotBegun, Runs}
use Rattle.vdr_feed.specs.Progress.{HasRead}
use Rattle.vdr_replay.specs.declared.ended.Replayed.{Replayed}
use Rattle.vdr_replay.specs.declared.ended.ReplayRefused.{ReplayRefused}
use Rattle.vdr_replay.specs.declared.ended.ReplayRefused.TheVariants as stops
use Rattle.vdr_replay.specs.Refusals.{refused_by_start}
use Rattle.vdr_replay.specs.Taking.{Closes}
use Rattle.vdr_replay.proofs.Calls.{start_breaks}
use Rattle.vdr_recorder.specs.Watched.{DoneAndTold, Watched}
use Rattle.vdr_recorder.proofs.Passing.{passes_first}
use Rattle.vdr_recorder.proofs.Telling.{tells_none}
use Rattle.vdr_replay.proofs.Reading.{reached}

abbrev pub Started : Type 0
Started = Result (Unit {0}) StartRefused

fault_is_no_place : (start : Started) → start ≡ Err refusals.Fault → start ≡ Err refusals.Place → ⊥
fault_is_no_place start a b = cc

fault_is_no_tick : (start : Started) → start ≡ Err refusals.Fault → start ≡ Err refusals.Tick → ⊥
fault_is_no_tick start a b = cc

pub ok_is_no_place : (start : Started) (u : Unit {0}) → start ≡ Ok u → start ≡ Err refusals.Place → ⊥
ok_is_no_place start u a b = cc

pub ok_is_no_tick : (start : Started) (u : Unit {0}) → start ≡ Ok u → start ≡ Err refusals.Tick → ⊥
ok_is_no_tick start u a b = cc

module _ {tells tells_images : Type 0} (opening : Opening) (t0 : ℕ) (r : RecorderState) (old : Disk tells tells_images) (h : HasRecorded opening [] t0 r old) (start : Started)
    (place : (start ≡ Err refusals.Place) ↔ (2 ^ 62 ≤ r.vault.next_place))
    (tick : (start ≡ Err refusals.Tick) ↔ ((r.vault.next_place < 2 ^ 62) × (2 ^ 62 ≤ base_after (option_map stamp_of r.vault.last)))) where
  place_is : r.vault.next_place ≡ opening.next_place
  place_is = h.told.place

  base_is : base_after (option_map stamp_of r.vault.last) ≡ base_after opening.last
  base_is = ap (λ (o : Option (ℕ × ℤ)). base_after (option_map stamp_of o)) h.told.stamp ∙ ap base_after (same_stamp opening.last)

  pub may_begin : (start ≡ Err refusals.Place → ⊥) → (start ≡ Err refusals.Tick → ⊥) → MayBegin opening
  may_begin not_place not_tick =
      let low : r.vault.next_place < 2 ^ 62 = ⊎_elim (λ (l : r.vault.next_place < 2 ^ 62). l) (λ (k : 2 ^ 62 ≤ r.vault.next_place). absurd (not_place (place.1 k))) (cases_lt r.vault.next_place (2 ^ 62)) in
      record {
        place = let a = place_is in omega (arith, a, low);
        base = ⊎_elim (λ (l : base_after opening.last < 2 ^ 62). l)
            (λ (k : 2 ^ 62 ≤ base_after opening.last). absurd (not_tick (tick.1 (low, subst (λ (n : ℕ). 2 ^ 62 ≤ n) (sym base_is) k)))) (cases_lt (base_after opening.last) (2 ^ 62));
      }

  -- A refusal, or a fault of the Start
  module _ (left : Option (List ℕ)) (reader : Reading) (now : Option (List ℕ)) (rates : List (Option Rate)) (after : RecorderState) (new : Disk tells tells_images) (hears : Type 0) (was is_seen : Watched) (works : r.vault.failed ≡ false) where
    pub start_stops : (e : StartRefused) → start ≡ Err e → ((start ≡ Err refusals.Place) ⊎ (start ≡ Err refusals.Tick) → HasNotBegun opening t0 left reader now rates after old new hears was is_seen)
        → ((start ≡ Err refusals.Place → ⊥) → (start ≡ Err refusals.Tick → ⊥) → DoneAndTold hears opening [] t0 (Commit (begun (next_start (state_left opening []))).made []) after old new was is_seen)
        → Runs opening t0 left reader now rates after old new hears was is_seen (Err (refused_by_start e))
    start_stops refusals.Place is not_begun done = (subst (λ (n : ℕ). 2 ^ 62 ≤ n) place_is (place.0 is), not_begun (inl is))
    start_stops refusals.Tick is not_begun done =
        let late = tick.0 is in (
          subst (λ (n : ℕ). n < 2 ^ 62) place_is late.0,
          subst (λ (n : ℕ). 2 ^ 62 ≤ n) base_is late.1,
          not_begun (inr is),
        )
    start_stops refusals.Fault is not_begun done = record {
      feed = [];
      read = λ first k. reached first left reader [] k;
      known = All-nil (λ (i : FeedItem). HasRate rates i.group);
      low = All-nil (λ (i : FeedItem). i.group < 16);
      may = may_begin (fault_is_no_place start is) (fault_is_no_tick start is);
      breaks = start_breaks opening t0 r after old new hears was is_seen h works (done (fault_is_no_place start is) (fault_is_no_tick start is));
    }

-- What the start decides by the recorder alone
module _ (place : ℕ) (newest : Option (ℕ × ℤ)) (start : Started) (at : (start ≡ Err refusals.Place) ↔ (2 ^ 62 ≤ place))
    (tick : (start ≡ Err refusals.Tick) ↔ ((place < 2 ^ 62) × (2 ^ 62 ≤ base_after (option_map stamp_of newest)))) where
  pub start_decides : (left : Option (List ℕ)) (reader : Reading) (now : Option (List ℕ)) (rates : List (Option Rate)) (e : StartRefused) → start ≡ Err e
      → DecidesRun place newest left reader now rates (Err (refused_by_start e))
  start_decides left reader now rates refusals.Place is = at.0 is
  start_decides left reader now rates refusals.Tick is = tick.0 is
  start_decides left reader now rates refusals.Fault is = tt

  pub started_low : (start ≡ Err refusals.Place → ⊥) → (start ≡ Err refusals.Tick → ⊥) → (place < 2 ^ 62) × (base_after (option_map stamp_of newest) < 2 ^ 62)
  started_low not_place not_tick =
      let low : place < 2 ^ 62 = ⊎_elim (λ (l : place < 2 ^ 62). l) (λ (k : 2 ^ 62 ≤ place). absurd (not_place (at.1 k))) (cases_lt place (2 ^ 62)) in (
        low,
        ⊎_elim (λ (l : base_after (option_map stamp_of newest) < 2 ^ 62). l)
            (λ (k : 2 ^ 62 ≤ base_after (option_map stamp_of newest)). absurd (not_tick (tick.1 (low, k)))) (cases_lt (base_after (option_map stamp_of newest)) (2 ^ 62)),
      )

-- A run that is refused touches nothing.
pub start_unbegun : {P : Type 0} (start : Started) (e : StartRefused) → start ≡ Err e → ((start ≡ Err refusals.Place) ⊎ (start ≡ Err refusals.Tick) → P) → RefusesRun (Err (refused_by_start e)) → P
start_unbegun start refusals.Place is untouched refuses = untouched (inl is)
start_unbegun start refusals.Tick is untouched refuses = untouched (inr is)
start_unbegun start refusals.Fault is untouched refuses = absurd refuses

-- The same of the contents that the media hold.
pub decides_as : (x : Contents) (place : ℕ) (newest : Option (ℕ × ℤ)) (config : Configuration) (first left now : Option (List ℕ)) (reader : Reading) → place ≡ (opening_of x).next_place
    → newest ≡ option_map of_stamp (opening_of x).last → config ≡ x.config → HasRead first left reader [] → (result : Result Replayed ReplayRefused) → DecidesRun place newest left reader now config.groups result
    → Decides x first now result
decides_as x place newest config first left now reader place_is newest_is config_is read result h = go result h
  where
    base_at : base_after (option_map stamp_of newest) ≡ base_after (opening_of x).last
    base_at = ap (λ (o : Option (ℕ × ℤ)). base_after (option_map stamp_of o)) newest_is ∙ ap base_after (same_stamp (opening_of x).last)

    go : (result : Result Replayed ReplayRefused) → DecidesRun place newest left reader now config.groups result → Decides x first now result
    go (Ok r) h = (
      record { place = subst (λ (n : ℕ). n < 2 ^ 62) place_is h.0; base = subst (λ (n : ℕ). n < 2 ^ 62) base_at h.1 },
      subst (λ (c : Configuration). IfKnown first (λ bytes. (items : List FeedItem) × ReadsFeed c.groups bytes now r.end items × AreConfigured c.groups items)) config_is (h.2 first read),
    )
    go (Err stops.Place) h = subst (λ (n : ℕ). 2 ^ 62 ≤ n) place_is h
    go (Err stops.Tick) h = (subst (λ (n : ℕ). n < 2 ^ 62) place_is h.0, subst (λ (n : ℕ). 2 ^ 62 ≤ n) base_at h.1)
    go (Err stops.NoMemory) h = tt
    go (Err stops.Input) h = tt
    go (Err (stops.Refused number offset)) h = tt
    go (Err stops.NotFormatted) h = tt
    go (Err (stops.Damaged m offset)) h = tt
    go (Err stops.Media) h = tt

-- What holds after an error.
pub untold_by : {P : Type 0} (start : Started) (e : StartRefused) → start ≡ Err e → OnErr start P → P
untold_by {P} start e is h = subst (λ (r : Started). OnErr r P) is h

-- Where nothing was called the run was not begun.
pub not_begun : {tells tells_images : Type 0} (opening : Opening) (t0 : ℕ) (left : Option (List ℕ)) (reader : Reading) (now : Option (List ℕ)) (rates : List (Option Rate)) (r after : RecorderState) (old new : Disk tells tells_images)
    (hears : Type 0) (was is : Watched) → HasRecorded opening [] t0 r old → after ≡ r → new ≡ old → (hears → is ≡ was) → HasNotBegun opening t0 left reader now rates after old new hears was is
not_begun {tells} {tells_images} opening t0 left reader now rates r after old new hears was is h same still untold = record {
  has = subst (λ (d : Disk tells tells_images). HasRecorded opening [] t0 after d) (sym still) (subst (λ (s : RecorderState). HasRecorded opening [] t0 s old) (sym same) h);
  passes = subst (λ (d : Disk tells tells_images). Passes opening [] old d) (sym still) (passes_first opening [] old);
  heard = tells_none untold;
}

-- So many records has a run that was closed.
pub run_total : {tells tells_images : Type 0} (opening : Opening) (feed : List FeedItem) (t0 : ℕ) (r after : RecorderState) (old mid new : Disk tells tells_images) (hears : Type 0) (was is_seen : Watched) → HasRecorded opening [] t0 r old → after.vault.failed ≡ false
    → (closes : Closes opening feed [] t0 after mid new hears was is_seen) → (first last total : ℕ) → first ≡ r.vault.next_place → last ≡ after.vault.next_place → total ≡ last - first
    → total ≡ length (feed_records (start_of_opening opening) feed)
run_total opening feed t0 r after old mid new hears was is_seen h works closes first last total begins ends is =
    let a = h.told.place in
    let b = closes.has.told.place in
    let c = left_place opening closes.more ((whole_has_not_failed closes.more).1 (sym closes.has.failed ∙ works)) in
    let d = ap (λ (rs : List Record). length rs) closes.made in
    omega (arith, begins, ends, is, a, b, c, d)

-- A call that only reads is a look, and so is each call after a fault.
use Rattle.std.proofs.Common.{◌≡◌, ◌-◌, ℕ, List, length, All, [], ◌∷◌, ◌++◌, Bool, true, false, Option, Some, None, ◌⊎◌, inl, inr, refl, sym, ap, ◌∙◌, subst, arith, true≢false}
use Rattle.std.proofs.lemmas.List.Elements.{All-weaker}
use Rattle.std.proofs.lemmas.Bool.{cases_Bool}
use Rattle.vdr_core.specs.Histories.{Act, Event, EndsBy, IsHistory, Opening}
use Rattle.vdr_core.specs.Histories.Act.{Look}
use Rattle.vdr_core.specs.RunStates.{RunState, state_left}
use Rattle.vdr_core.proofs.Growing.{history_grows, history_looks}
use Rattle.vdr_terms.specs.Queries.{Query}
use Rattle.vdr_durability.specs.Playback.{medium_of}
use Rattle.vdr_durability.specs.Keeping.{IsWhole, Keeps, ShowsEither, ShowsPrefix, moment_of}
use Rattle.vdr_durability.proofs.Kept.{keeps_after_fault, keeps_done}
use Rattle.vdr_durability.proofs.Whole.{whole_has_not_failed}
use Rattle.vdr_outside.specs.Disk.{Disk, Unchanged}
use Rattle.vdr_outside.proofs.Moments.{moments_still}
use Rattle.vdr_config.specs.Configuration.{Configuration}
use Rattle.vdr_config.specs.Sizes.{sizes_of}
use Rattle.vdr_durability.specs.Media.{IsMediumOf}
use Rattle.vdr_durability.proofs.Media.{silent}
use Rattle.vdr_durability.proofs.Acknowledged.{rises_with}
use Rattle.vdr_directory.specs.Sequence.{Placed, segments_in}
use Rattle.vdr_media.specs.Formatted.{members_with}
use Rattle.vdr_opening.specs.Answers.{members_on}
use Rattle.vdr_vault.specs.Vaults.{VaultState, ShowsHistory, Stands}
use Rattle.vdr_vault.proofs.ShownHistory.{stand_shows, stands_silent}
use Rattle.vdr_vault.specs.Refusals.{HasVisitCause}
use Rattle.vdr_vault.specs.Visits.{HasOnlyRead}
use Rattle.vdr_vault.proofs.Reading.{cause_join, only_read_join, reads_keep, reads_keep_failed}
use Rattle.vdr_recorder.specs.Looks.{HasLooked}
use Rattle.vdr_recorder.specs.Making.{MakesBy}
use Rattle.vdr_recorder.specs.Recordings.{HasDone, HasRecorded, IsWorking, RecorderState, TellsLeft, acts_of, start_of_opening}
use Rattle.vdr_recorder.proofs.Continuing.{acts_with, fails_with, has_moment, left_with, made_looks, told_at_rest, told_without, whole_with}

module _ {tells tells_images : Type 0} (opening : Opening) (events : List Event) (t0 : ℕ) (r : RecorderState) (old new : Disk tells tells_images) (h : HasRecorded opening events t0 r old)
    (after : VaultState) (same : Unchanged old new) (failed_is : after.failed ≡ r.vault.failed) (config_is : after.config ≡ r.vault.config)
    (place_is : after.next_place ≡ r.vault.next_place) (last_is : after.last ≡ r.vault.last) (table_is : after.table ≡ r.vault.table)
    (as_many : length after.rings ≡ length r.vault.rings)
    (stands : (placed : ℕ → List Placed) → Stands opening events r.vault placed old → Stands opening events after placed new) where
  abbrev look : Event
  look = record { act = Look; moment = moment_of after.failed new.clock }

  whole : after.failed ≡ false → IsWhole events
  whole goes = (whole_has_not_failed events).1 (sym h.failed ∙ sym failed_is ∙ goes)

  broken : after.failed ≡ true → IsWhole events → ⊥
  broken fails all = true≢false (sym fails ∙ failed_is ∙ h.failed ∙ (whole_has_not_failed events).0 all)

  no_moment : after.failed ≡ true → look.moment ≡ None
  no_moment fails = ap (λ (b : Bool). moment_of b new.clock) fails

  a_moment : after.failed ≡ false → look.moment ≡ Some new.clock
  a_moment goes = ap (λ (b : Bool). moment_of b new.clock) goes

  working : after.failed ≡ false → IsWorking opening (events ++ look ∷ []) (record r { vault = after }) new
  working goes =
      let w = h.works (sym failed_is ∙ goes) in
      let v = w.standing in
      let left : state_left opening (events ++ look ∷ []) ≡ state_left opening events = left_with opening events look (whole goes) (has_moment after.failed new.clock look.moment refl goes) in
      record {
        standing = record {
          placed = v.placed;
          first = v.first;
          stands = stands_silent opening events look refl refl after v.placed new (stands v.placed v.stands);
          media = subst (λ (n : ℕ). All (λ m. IsMediumOf (sizes_of after.config) (start_of_opening opening) (segments_in (v.first m)) (acts_of (events ++ look ∷ [])) (segments_in (v.placed m))) (members_with (n - 2))) (sym as_many) (All-weaker
              (λ m. IsMediumOf (sizes_of r.vault.config) (start_of_opening opening) (segments_in (v.first m)) (acts_of events) (segments_in (v.placed m)))
              (λ m. IsMediumOf (sizes_of after.config) (start_of_opening opening) (segments_in (v.first m)) (acts_of (events ++ look ∷ [])) (segments_in (v.placed m)))
              (λ m k. subst (λ (x : Configuration × List Act). IsMediumOf (sizes_of x.0) (start_of_opening opening) (segments_in (v.first m)) x.1 (segments_in (v.placed m)))
              (λ i. (sym config_is i, sym (acts_with events look) i))
              (silent (sizes_of r.vault.config) (start_of_opening opening) (segments_in (v.first m)) (acts_of events) (segments_in (v.placed m)) Look k tt refl))
              (members_on r.vault.rings) v.media);
        };
        open_is = w.open_is ∙ sym (ap (λ (s : RunState). s.is_open) left);
        makes = λ opened. subst (λ (x : Configuration × RunState). MakesBy x.0 x.1.start x.1.popped r.maker) (λ i. (sym config_is i, sym left i)) (w.makes opened);
      }

  grows : (after.failed ≡ true) ⊎ (after.failed ≡ false) → IsHistory opening (events ++ look ∷ []) × Keeps (ShowsHistory opening) (events ++ look ∷ []) t0 new
  grows (inl fails) = (
    history_looks opening events look h.history (broken fails) refl (no_moment fails),
    keeps_after_fault (ShowsHistory opening) events t0 look old new h.kept (broken fails) same refl (no_moment fails),
  )
  grows (inr goes) = (
    history_grows opening events look h.history (whole goes) tt (subst (λ (o : Option ℕ). EndsBy o Look [] (Unit {0})) (sym (a_moment goes)) tt),
    keeps_done (ShowsHistory opening) events t0 look old new h.kept (whole goes) (moments_still old new (ShowsEither (ShowsHistory opening) events look old.now) same (λ i now. inl now)) (a_moment goes)
        (λ image now. stand_shows opening (events ++ look ∷ []) after (working goes).standing.placed new (working goes).standing.stands image now),
  )

  told_after : (after.failed ≡ true) ⊎ (after.failed ≡ false) → TellsLeft opening (events ++ look ∷ []) after
  told_after (inl fails) = told_without opening events look r.vault after (no_moment fails) h.told place_is last_is table_is
  told_after (inr goes) = told_at_rest opening (events ++ look ∷ []) (whole_with events look (whole goes) (has_moment after.failed new.clock look.moment refl goes)) after (working goes).standing.placed new (working goes).standing.stands

  -- A call that reads, or none.
  pub look_done : HasDone opening events t0 Look (record r { vault = after }) old new
  look_done =
      let g = grows (cases_Bool after.failed) in
      record {
        event = look;
        act_is = refl;
        moment_is = refl;
        has = record {
          history = g.0;
          made = made_looks opening events look h.made refl;
          failed = fails_with after.failed new.clock events look whole refl;
          told = told_after (cases_Bool after.failed);
          rises = rises_with events t0 old.clock new.clock look after.failed h.rises (let same_clock = same.clock in omega (arith, same_clock)) refl;
          kept = g.1;
          works = working;
        };
        passes = moments_still old new (λ image. old.now image ⊎ ShowsPrefix (ShowsHistory opening) (events ++ look ∷ []) 0 image) same (λ i now. inl now);
      }

module _ {tells tells_images : Type 0} where
  -- A call on the vault that only reads is a look of the recorder.
  pub looked : (query : Query) (r : RecorderState) (after : VaultState) (old new : Disk tells tells_images) (read_before read_now faults_before faults_now : List ℕ) (answered : Type 0)
      → HasOnlyRead query r.vault after old new read_before read_now → HasVisitCause (medium_of query.medium) r.vault.failed faults_before faults_now answered
      → HasLooked query r (record r { vault = after }) old new read_before read_now faults_before faults_now answered
  looked query r after old new read_before read_now faults_before faults_now answered read cause =
      let kept = reads_keep (medium_of query.medium) r.vault after read.vault in
      record {
        read = read;
        maker = refl;
        is_open = refl;
        done = λ opening events t0 h.
            look_done opening events t0 r old new h after read.unchanged kept.4 kept.0 kept.2 kept.3 kept.1 read.vault.count (λ placed stands. read.stands opening events placed stands);
        cause = cause;
      }

  -- Two looks, one after the other, are one.
  pub looks_join : (query : Query) (r s t : RecorderState) (old mid new : Disk tells tells_images) (read_before read_mid read_now faults_before faults_mid faults_now : List ℕ) (first second : Type 0)
      → HasLooked query r s old mid read_before read_mid faults_before faults_mid first → HasLooked query s t mid new read_mid read_now faults_mid faults_now second
      → HasLooked query r t old new read_before read_now faults_before faults_now (first ⊎ second)
  looks_join query r s t old mid new read_before read_mid read_now faults_before faults_mid faults_now first second h k =
      let m = medium_of query.medium in
      let failed = reads_keep_failed m r.vault s.vault h.read.vault in
      let all = looked query r t.vault old new read_before read_now faults_before faults_now (first ⊎ second)
      (only_read_join query r.vault s.vault t.vault old mid new read_before read_mid read_now h.read k.read)
      (cause_join m r.vault.failed faults_before faults_mid faults_now first second h.cause
      (subst (λ (b : Bool). HasVisitCause m b faults_mid faults_now second) failed k.cause)) in
      subst (λ (x : RecorderState). HasLooked query r x old new read_before read_now faults_before faults_now (first ⊎ second))
      (λ i. record { vault = t.vault; maker = (sym h.maker ∙ sym k.maker) i; is_open = (sym h.is_open ∙ sym k.is_open) i }) all

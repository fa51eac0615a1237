-- A commit of what a recorder makes is one event of its history.
use Rattle.std.proofs.Common.{◌≡◌, ◌≢◌, ◌<◌, ◌≤◌, ◌==◌, ℕ, List, [], ◌∷◌, ◌++◌, length, All, Bool, true, false, Result, Ok, Err, OnOk, OnErr, inl, refl, sym, ◌∙◌, subst, arith, true≢false}
use Rattle.std.proofs.lemmas.Bool.{eqb-true}
use Rattle.std.proofs.lemmas.List.Elements.{All-weaker}
use Rattle.vdr_terms.specs.Needs.{cost}
use Rattle.vdr_terms.specs.Records.{Record}
use Rattle.vdr_core.specs.Histories.{Act, Event, Opening, next_place}
use Rattle.vdr_core.specs.Histories.Act.{Commit, Look}
use Rattle.vdr_core.specs.RunStates.{IsMadeIn, RunState, state_left}
use Rattle.vdr_core.specs.Taken.{Captured}
use Rattle.vdr_core.proofs.Growing.{continues_run}
use Rattle.vdr_durability.specs.Regular.{IsPaced}
use Rattle.vdr_durability.specs.Keeping.{Extends, IsWhole, ShowsEither, moment_of}
use Rattle.vdr_outside.specs.Disk.{Disk}
use Rattle.vdr_outside.specs.declared.fault.Fault.{Fault}
use Rattle.vdr_outside.proofs.Moments.{moments_none}
use Rattle.vdr_config.specs.Configuration.{Configuration}
use Rattle.vdr_config.specs.Sizes.{sizes_of}
use Rattle.vdr_durability.specs.Commits.{IsDoneIn, closing_size}
use Rattle.vdr_durability.specs.Media.{IsAppended, IsMediumOf, state_after}
use Rattle.vdr_durability.proofs.Media.{appended, is_paced, silent}
use Rattle.vdr_media.proofs.Members.{of_all, of_each}
use Rattle.vdr_directory.specs.Sequence.{Placed, segments_in}
use Rattle.vdr_opening.specs.Answers.{further_on, members_on}
use Rattle.vdr_vault.specs.Calls.{Commits, MayCommit}
use Rattle.vdr_vault.specs.Vaults.{VaultState, ShowsHistory, Stands}
use Rattle.vdr_vault.proofs.ShownHistory.{stands_silent}
use Rattle.vdr_recorder.specs.Recordings.{HasKept, IsStanding, KeepsEvent, acts_of, start_of_opening}
use Rattle.vdr_recorder.proofs.Continuing.{act_made, acts_with, commit_continues, left_whole}
use Rattle.vdr_recorder.proofs.Growing.{event_kept, whole_events}

-- A commit is no look.
is_no_look : (records : List Record) (taken : List Captured) → Commit records taken ≢ Look
is_no_look records taken e = cc

-- Of a call that works only where it answers Ok.
ok_where : (result : Result (Unit {0}) Fault) (failed : Bool) (P : Type 0) → OnErr result (failed ≡ true) → OnOk result P → failed ≡ false → P
ok_where (Ok v) failed P err ok works = ok
ok_where (Err fault) failed P err ok works = absurd (true≢false (sym err ∙ works))

err_where : (result : Result (Unit {0}) Fault) (failed : Bool) (P : Type 0) → OnOk result (failed ≡ false) → OnErr result P → failed ≡ true → P
err_where (Ok v) failed P ok err fails = absurd (true≢false (sym fails ∙ ok))
err_where (Err fault) failed P ok err fails = err

-- Whether there are any records.
pub none_of : (rs : List Record) (b : Bool) → b ≡ (length rs == 0) → b ≡ true → rs ≡ []
none_of [] b e t = refl
none_of (r ∷ rs) b e t = let n = eqb-true (length (r ∷ rs)) 0 (sym e ∙ t) in absurd (omega (arith, n))

pub some_of : (rs : List Record) (b : Bool) → b ≡ (length rs == 0) → b ≡ false → 0 < length rs
some_of [] b e f = absurd (true≢false (sym e ∙ f))
some_of (r ∷ rs) b e f = omega arith

module _ {tells tells_images : Type 0} (opening : Opening) (events : List Event) (t0 : ℕ) (vault : VaultState) (old : Disk tells tells_images) (h : HasKept opening events t0 vault old) (works : vault.failed ≡ false) where
  whole : IsWhole events
  whole = whole_events opening events t0 vault old h works

  module _ (records : List Record) (taken : List Captured) (done : IsDoneIn opening.settings.limits vault.config.batch (state_left opening events) (Commit records taken)) where
    done_after : IsDoneIn opening.settings.limits vault.config.batch (state_after (start_of_opening opening) (acts_of events)) (Commit records taken)
    done_after = subst (λ (s : RunState). IsDoneIn opening.settings.limits vault.config.batch s (Commit records taken)) (left_whole opening events whole) done

    made_now : IsMadeIn (state_left opening events) (Commit records taken)
    made_now = act_made opening events whole h.made opening.settings.limits vault.config.batch (Commit records taken) done

    -- The batch may come next.
    pub may_commit : (v : IsStanding opening events vault old) → closing_size ≤ vault.config.batch → 0 < length records → MayCommit (members_on vault.rings) opening events vault.config v.placed records
    may_commit v roomy some = record {
      places = continues_run opening.settings.channels (next_place opening events) records (commit_continues opening events whole h.made records taken made_now);
      paced = All-weaker
          (λ m. IsMediumOf (sizes_of vault.config) (start_of_opening opening) (segments_in (v.first m)) (acts_of events) (segments_in (v.placed m)))
          (λ m. IsPaced (cost (sizes_of vault.config)) vault.config.batch (segments_in (v.placed m)) records)
          (λ m k. is_paced (sizes_of vault.config) (start_of_opening opening) (segments_in (v.first m)) (acts_of events) (segments_in (v.placed m)) records taken k roomy done_after some)
          (members_on vault.rings) v.media;
    }

    -- The history with the commit, over media at whose every moment it or the history before was shown.
    module _ (after : VaultState) (new : Disk tells tells_images) where
      abbrev pub event : Event
      event = record { act = Commit records taken; moment = moment_of after.failed new.clock }

      grown : Extends (ShowsHistory opening) events event old new → (after.failed ≡ false → IsStanding opening (events ++ event ∷ []) after new)
          → (after.failed ≡ true → (after.next_place ≡ vault.next_place) × (after.last ≡ vault.last) × (after.table ≡ vault.table))
          → KeepsEvent opening events t0 (Commit records taken) after old new
      grown moments stands kept = event_kept opening events t0 vault old h works (Commit records taken) after new (is_no_look records taken)
          (commit_continues opening events whole h.made records taken made_now) made_now moments stands kept

      medium_with : (m : ℕ) (first before now : List Placed) → after.config ≡ vault.config → 0 < length records
          → IsMediumOf (sizes_of vault.config) (start_of_opening opening) (segments_in first) (acts_of events) (segments_in before) → IsAppended (segments_in before) records (segments_in now)
          → IsMediumOf (sizes_of after.config) (start_of_opening opening) (segments_in first) (acts_of (events ++ event ∷ [])) (segments_in now)
      medium_with m first before now same some k put =
          subst (λ (x : Configuration × List Act). IsMediumOf (sizes_of x.0) (start_of_opening opening) (segments_in first) x.1 (segments_in now))
          (λ i. (sym same i, sym (acts_with events event) i))
          (appended (sizes_of vault.config) (start_of_opening opening) (segments_in first) (acts_of events) (segments_in before) (segments_in now) records taken k done_after some put)

      -- A commit of records, as the vault answers it.
      pub kept_commit : (result : Result (Unit {0}) Fault) (v : IsStanding opening events vault old) → after.config ≡ vault.config → length after.rings ≡ length vault.rings → OnErr result (after.failed ≡ true) → OnOk result (after.failed ≡ false)
          → OnErr result ((after.next_place ≡ vault.next_place) × (after.last ≡ vault.last)) → after.table ≡ vault.table → 0 < length records
          → Commits opening events event records v.placed after old new result → KeepsEvent opening events t0 (Commit records taken) after old new
      kept_commit result v same as_many fails goes kept table some commits =
          grown commits.moments (ok_where result after.failed (IsStanding opening (events ++ event ∷ []) after new) fails (standing result commits.done))
          (λ failed. let k = err_where result after.failed ((after.next_place ≡ vault.next_place) × (after.last ≡ vault.last)) goes kept failed in (k.0, k.1, table))
        where
          media : (m : ℕ) → Type 0
          media m = IsMediumOf (sizes_of vault.config) (start_of_opening opening) (segments_in (v.first m)) (acts_of events) (segments_in (v.placed m))

          placing : (now : ℕ → List Placed) → Stands opening (events ++ event ∷ []) after now new → All (λ m. IsAppended (segments_in (v.placed m)) records (segments_in (now m))) (members_on after.rings)
              → IsStanding opening (events ++ event ∷ []) after new
          placing now stands put = record {
            placed = now;
            first = v.first;
            stands = stands;
            media = of_all (λ m. IsMediumOf (sizes_of after.config) (start_of_opening opening) (segments_in (v.first m)) (acts_of (events ++ event ∷ [])) (segments_in (now m))) (further_on after.rings)
                (λ m l. medium_with m (v.first m) (v.placed m) (now m) same some
                (of_each (λ m. IsMediumOf (sizes_of vault.config) (start_of_opening opening) (segments_in (v.first m)) (acts_of events) (segments_in (v.placed m))) (further_on vault.rings) v.media m (omega (arith, l, as_many)))
                (of_each (λ m. IsAppended (segments_in (v.placed m)) records (segments_in (now m))) (further_on after.rings) put m l));
          }

          standing : (result : Result (Unit {0}) Fault)
              → OnOk result ((now : ℕ → List Placed) × Stands opening (events ++ event ∷ []) after now new × All (λ m. IsAppended (segments_in (v.placed m)) records (segments_in (now m))) (members_on after.rings))
              → OnOk result (IsStanding opening (events ++ event ∷ []) after new)
          standing (Ok done) k = placing k.0 k.1 k.2
          standing (Err fault) k = tt

    -- A commit of no records, for which nothing was called.
    pub kept_nothing : (v : IsStanding opening events vault old) → records ≡ [] → KeepsEvent opening events t0 (Commit records taken) vault old old
    kept_nothing v none =
        grown vault old (moments_none old (ShowsEither (ShowsHistory opening) events (event vault old) old.now) (λ image now. inl now)) (λ again. record {
          placed = v.placed;
          first = v.first;
          stands = stands_silent opening events (event vault old) none refl vault v.placed old v.stands;
          media = All-weaker
              (λ m. IsMediumOf (sizes_of vault.config) (start_of_opening opening) (segments_in (v.first m)) (acts_of events) (segments_in (v.placed m)))
              (λ m. IsMediumOf (sizes_of vault.config) (start_of_opening opening) (segments_in (v.first m)) (acts_of (events ++ event vault old ∷ [])) (segments_in (v.placed m)))
              (λ m k. subst (λ (acts : List Act). IsMediumOf (sizes_of vault.config) (start_of_opening opening) (segments_in (v.first m)) acts (segments_in (v.placed m))) (sym (acts_with events (event vault old)))
              (silent (sizes_of vault.config) (start_of_opening opening) (segments_in (v.first m)) (acts_of events) (segments_in (v.placed m)) (Commit records taken) k done_after none))
              (members_on vault.rings) v.media;
        }) (λ fails. absurd (true≢false (sym fails ∙ works)))

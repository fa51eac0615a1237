-- A save and a release are events of a recorder's history that record nothing and leave its runs alone.
use Rattle.std.proofs.Common.{◌≡◌, ◌≢◌, ◌-◌, ℕ, List, length, All, [], ◌∷◌, ◌++◌, Bool, true, false, Option, Some, None, Result, Ok, Err, OnOk, OnErr, ◌⊎◌, inl, inr, refl, sym, ap, ◌∙◌, subst, true≢false}
use Rattle.std.proofs.lemmas.List.Elements.{All-weaker}
use Rattle.vdr_terms.specs.Rates.{Limit}
use Rattle.vdr_core.specs.Histories.{Act, Event, Incident, MayCome, Opening, live, records_of_act}
use Rattle.vdr_core.specs.Histories.Act.{Look, Release, Save}
use Rattle.vdr_core.specs.RunStates.{IsMadeIn, RunState, after_act, state_left}
use Rattle.vdr_durability.specs.Keeping.{Extends}
use Rattle.vdr_outside.specs.Disk.{Disk, Unchanged}
use Rattle.vdr_config.specs.Configuration.{Configuration}
use Rattle.vdr_config.specs.Sizes.{sizes_of}
use Rattle.vdr_durability.specs.Commits.{IsDoneIn}
use Rattle.vdr_durability.specs.Media.{IsMediumOf, state_after}
use Rattle.vdr_durability.proofs.Media.{silent}
use Rattle.vdr_directory.specs.Sequence.{segments_in}
use Rattle.vdr_incident.specs.declared.refused.ReleaseRefused.{ReleaseRefused}
use Rattle.vdr_incident.specs.declared.refused.ReleaseRefused.TheVariants as releases
use Rattle.vdr_media.specs.Formatted.{members_with}
use Rattle.vdr_opening.specs.Answers.{members_on}
use Rattle.vdr_vault.specs.Saves.{Does, Saves, save_refusal}
use Rattle.vdr_vault.specs.Vaults.{VaultState, ShowsHistory, Stands}
use Rattle.vdr_vault.specs.declared.refused.SaveRefused.{SaveRefused}
use Rattle.vdr_vault.specs.declared.refused.SaveRefused.TheVariants as saves
use Rattle.vdr_recorder.specs.Making.{MakesBy}
use Rattle.vdr_recorder.specs.Recordings.{HasDone, HasKept, HasRecorded, IsStanding, KeepsEvent, RecorderState, acts_of, start_of_opening}
use Rattle.vdr_recorder.proofs.Answering.{same_disk}
use Rattle.vdr_recorder.proofs.Continuing.{acts_with}
use Rattle.vdr_recorder.proofs.Growing.{event, event_kept}
use Rattle.vdr_recorder.proofs.Looking.{look_done}
use Rattle.vdr_recorder.proofs.Running.{has_done, kept_of}

-- The act records nothing, leaves the runs alone, and is no look.
record IsQuiet (act : Act) : Type 0 where
  pub no_look : act ≢ Look
  pub none : records_of_act act ≡ []
  pub stays : (s : RunState) → after_act s act ≡ s
  pub done : (limits : ℕ → Limit) (batch : ℕ) (s : RunState) → IsDoneIn limits batch s act
  pub made : (s : RunState) → IsMadeIn s act

save_no_look : (id : ℕ) (label : List ℕ) (a b : ℕ) → Save id label a b ≢ Look
save_no_look id label a b e = cc

release_no_look : (id : ℕ) → Release id ≢ Look
release_no_look id e = cc

saves_quietly : (id : ℕ) (label : List ℕ) (a b : ℕ) → IsQuiet (Save id label a b)
saves_quietly id label a b = record { no_look = save_no_look id label a b; none = refl; stays = λ s. refl; done = λ limits batch s. tt; made = λ s. tt }

releases_quietly : (id : ℕ) → IsQuiet (Release id)
releases_quietly id = record { no_look = release_no_look id; none = refl; stays = λ s. refl; done = λ limits batch s. tt; made = λ s. tt }

-- A call that answers a fault exactly where it fails keeps, where it fails, what its refusals keep.
ok_is_no_fault : {T E : Type 0} (v : T) (fault : E) → Ok v ≡ Err fault → ⊥
ok_is_no_fault v fault e = cc

kept_where : {T E : Type 0} (result : Result T E) (fault : E) (failed : Bool) (P : Type 0) → ((result ≡ Err fault → ⊥) → failed ≡ false) → OnErr result P → failed ≡ true → P
kept_where (Ok v) fault failed P works kept fails = absurd (true≢false (sym fails ∙ works (ok_is_no_fault v fault)))
kept_where (Err e) fault failed P works kept fails = kept

-- A call that works and that nothing refused was answered with Ok.
done_where : {T E : Type 0} (result : Result T E) (failed : Bool) (P : Type 0) → OnOk result P → ((e : E) → result ≡ Err e → failed ≡ false → ⊥) → failed ≡ false → P
done_where (Ok v) failed P done none goes = done
done_where (Err e) failed P done none goes = absurd (none e refl goes)

some_is_not_none : {X : Type 0} (o : Option X) (x : X) → o ≡ Some x → o ≡ None → ⊥
some_is_not_none o x some none = cc

-- What an error keeps; and a call that was answered with damage had not failed before.
pub on_err : {T E : Type 0} (result : Result T E) (e : E) (P : Type 0) → result ≡ Err e → OnErr result P → P
on_err (Ok v) e P is kept = absurd (ok_is_no_fault v e is)
on_err (Err f) e P is kept = kept

damage_is_no_fault : (result : Result ℕ SaveRefused) (m offset : ℕ) → result ≡ Err (saves.Damaged m offset) → result ≡ Err saves.Fault → ⊥
damage_is_no_fault result m offset e f = cc

pub not_failed : (result : Result ℕ SaveRefused) (failed : Bool) (m offset : ℕ) → result ≡ Err (saves.Damaged m offset) → (failed ≡ true → result ≡ Err saves.Fault) → failed ≡ false
not_failed result true m offset is by_fault = absurd (damage_is_no_fault result m offset is (by_fault refl))
not_failed result false m offset is by_fault = refl

-- A call that was refused from the start left all as it was.
pub where_refused : (failed : Bool) (P Q : Type 0) → (failed ≡ true → P) → (failed ≡ false → Q → P) → (failed ≡ true) ⊎ Q → P
where_refused failed P Q by_fault by_reason (inl fails) = by_fault fails
where_refused true P Q by_fault by_reason (inr reason) = by_fault refl
where_refused false P Q by_fault by_reason (inr reason) = by_reason refl reason

module _ {tells tells_images : Type 0} (opening : Opening) (events : List Event) (t0 : ℕ) (r : RecorderState) where
  -- A call that left all as it was is a look.
  pub look_untouched : {X : Type 0} (disk : X → Disk tells tells_images) (before now : X) → HasRecorded opening events t0 r (disk before) → (after : VaultState)
      → (after ≡ r.vault) × (now ≡ before) → HasDone opening events t0 Look (record r { vault = after }) (disk before) (disk now)
  look_untouched disk before now h after (same, still) =
      look_done opening events t0 r (disk before) (disk now) h after
      (subst (λ media. Unchanged (disk before) (disk media)) (sym still) (same_disk (disk before)))
      (ap (λ (s : VaultState). s.failed) same) (ap (λ (s : VaultState). s.config) same) (ap (λ (s : VaultState). s.next_place) same) (ap (λ (s : VaultState). s.last) same)
      (ap (λ (s : VaultState). s.table) same) (ap (λ (s : VaultState). length s.rings) same)
      (λ placed stands. subst (λ (s : VaultState). Stands opening events s placed (disk now)) (sym same)
      (subst (λ media. Stands opening events r.vault placed (disk media)) (sym still) stands))

  module _ (old : Disk tells tells_images) (h : HasRecorded opening events t0 r old) (works : r.vault.failed ≡ false) (after : VaultState) (new : Disk tells tells_images)
      (config_is : after.config ≡ r.vault.config) (place_is : after.next_place ≡ r.vault.next_place) (last_is : after.last ≡ r.vault.last)
      (as_many : length after.rings ≡ length r.vault.rings) where
    kept : HasKept opening events t0 r.vault old
    kept = kept_of opening events t0 r old h

    abbrev event_of : Act → Event
    event_of act = event opening events t0 r.vault old kept works act after new

    module _ (act : Act) (quiet : IsQuiet act) (may : MayCome opening events act) (moments : Extends (ShowsHistory opening) events (event_of act) old new)
        (stands : after.failed ≡ false → Stands opening (events ++ event_of act ∷ []) after (h.works works).standing.placed new) (table_is : after.failed ≡ true → after.table ≡ r.vault.table) where
      standing : after.failed ≡ false → IsStanding opening (events ++ event_of act ∷ []) after new
      standing goes =
          let v = (h.works works).standing in
          record {
            placed = v.placed;
            first = v.first;
            stands = stands goes;
            media = subst (λ (n : ℕ). All (λ m. IsMediumOf (sizes_of after.config) (start_of_opening opening) (segments_in (v.first m)) (acts_of (events ++ event_of act ∷ [])) (segments_in (v.placed m))) (members_with (n - 2))) (sym as_many) (All-weaker
                (λ m. IsMediumOf (sizes_of r.vault.config) (start_of_opening opening) (segments_in (v.first m)) (acts_of events) (segments_in (v.placed m)))
                (λ m. IsMediumOf (sizes_of after.config) (start_of_opening opening) (segments_in (v.first m)) (acts_of (events ++ event_of act ∷ [])) (segments_in (v.placed m)))
                (λ m k. subst (λ (x : Configuration × List Act). IsMediumOf (sizes_of x.0) (start_of_opening opening) (segments_in (v.first m)) x.1 (segments_in (v.placed m)))
                (λ i. (sym config_is i, sym (acts_with events (event_of act)) i))
                (silent (sizes_of r.vault.config) (start_of_opening opening) (segments_in (v.first m)) (acts_of events) (segments_in (v.placed m)) act k
                (quiet.done opening.settings.limits r.vault.config.batch (state_after (start_of_opening opening) (acts_of events))) quiet.none))
                (members_on r.vault.rings) v.media);
          }

      event_keeps : KeepsEvent opening events t0 act after old new
      event_keeps = event_kept opening events t0 r.vault old kept works act after new quiet.no_look may (quiet.made (state_left opening events)) moments standing
          (λ fails. (place_is, last_is, table_is fails))

      -- The vault's event is one of the recorder.
      quiet_done : HasDone opening events t0 act (record r { vault = after }) old new
      quiet_done = has_done opening events t0 r old h works act (record r { vault = after }) new event_keeps (λ goes. (
        (h.works works).open_is ∙ ap (λ (s : RunState). s.is_open) (sym (quiet.stays (state_left opening events))),
        λ opened. subst (λ (x : Configuration × RunState). MakesBy x.0 x.1.start x.1.popped r.maker) (λ i. (sym config_is i, sym (quiet.stays (state_left opening events)) i)) ((h.works works).makes opened),
      ))

    -- A save that nothing stands in the way of.
    pub save_done : (label : List ℕ) (result : Result ℕ SaveRefused) (s : Saves opening events label (h.works works).standing.placed after old new result) → save_refusal label r.vault ≡ None
        → ((refused : SaveRefused) → result ≡ Err refused → (refused ≡ saves.Label) ⊎ ((refused ≡ saves.Nothing) ⊎ (refused ≡ saves.TableFull))
        → (r.vault.failed ≡ false) × (save_refusal label r.vault ≡ Some refused))
        → ((m offset : ℕ) → result ≡ Err (saves.Damaged m offset) → ⊥) → (result ≡ Err saves.Fault → after.failed ≡ true) → ((result ≡ Err saves.Fault → ⊥) → after.failed ≡ false)
        → OnErr result (after.table ≡ r.vault.table) → HasDone opening events t0 (Save s.id label s.a s.b) (record r { vault = after }) old new
    save_done label result s free reason undamaged fails goes table =
        let does = s.does (event_of (Save s.id label s.a s.b)) refl in
        quiet_done (Save s.id label s.a s.b) (saves_quietly s.id label s.a s.b) s.may_come does.moments
        (done_where result after.failed (Stands opening (events ++ event_of (Save s.id label s.a s.b) ∷ []) after (h.works works).standing.placed new) does.done none)
        (kept_where result saves.Fault after.failed (after.table ≡ r.vault.table) goes table)
      where
        none : (refused : SaveRefused) → result ≡ Err refused → after.failed ≡ false → ⊥
        none saves.Label e again = some_is_not_none (save_refusal label r.vault) saves.Label (reason saves.Label e (inl refl)).1 free
        none saves.Nothing e again = some_is_not_none (save_refusal label r.vault) saves.Nothing (reason saves.Nothing e (inr (inl refl))).1 free
        none saves.TableFull e again = some_is_not_none (save_refusal label r.vault) saves.TableFull (reason saves.TableFull e (inr (inr refl))).1 free
        none (saves.Damaged m offset) e again = undamaged m offset e
        none saves.Fault e again = true≢false (sym (fails e) ∙ again)

    -- A release of a live save.
    pub release_done : (id : ℕ) (saved : Incident) (result : Result (Unit {0}) ReleaseRefused) → live r.vault.table id ≡ Some saved
        → ((e : Event) → e.act ≡ Release id → Does opening events e (h.works works).standing.placed after old new result)
        → (result ≡ Err releases.NoSuch → (r.vault.failed ≡ false) × (live r.vault.table id ≡ None)) → (result ≡ Err releases.Fault → after.failed ≡ true)
        → ((result ≡ Err releases.Fault → ⊥) → after.failed ≡ false) → OnErr result (after.table ≡ r.vault.table) → HasDone opening events t0 (Release id) (record r { vault = after }) old new
    release_done id saved result has does reason fails goes table =
        let d = does (event_of (Release id)) refl in
        quiet_done (Release id) (releases_quietly id) (saved, subst (λ table. live table id ≡ Some saved) (h.works works).standing.stands.incidents_are has) d.moments
        (done_where result after.failed (Stands opening (events ++ event_of (Release id) ∷ []) after (h.works works).standing.placed new) d.done none)
        (kept_where result releases.Fault after.failed (after.table ≡ r.vault.table) goes table)
      where
        none : (refused : ReleaseRefused) → result ≡ Err refused → after.failed ≡ false → ⊥
        none releases.NoSuch e again = some_is_not_none (live r.vault.table id) saved has (reason e).1
        none releases.Fault e again = true≢false (sym (fails e) ∙ again)

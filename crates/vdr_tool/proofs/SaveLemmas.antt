-- What `incidents`, `save` and `release` answer, from what the calls on the media ensure.
use Rattle.std.specs.Prelude.{sum, IfOk, Bool, true, false, ⊤, is_none, position}
use Rattle.std.proofs.Common.{◌≡◌, ◌≤◌, ◌⊎◌, ◌∷◌, inl, inr, ⊎_elim, ℕ, ℤ, List, [], Option, Some, None, Result, Ok, Err, refl, sym, ap, subst, ◌∙◌}
use Rattle.vdr_core.specs.Histories.{Act, Event, Incident, Opening, live}
use Rattle.vdr_core.specs.Histories.Act.{Look, Release, Save}
use Rattle.vdr_durability.specs.Keeping.{moment_of}
use Rattle.vdr_durability.specs.Readings.{EndsMeet}
use Rattle.vdr_outside.specs.Causes.{NoneFalls, Rose}
use Rattle.vdr_outside.specs.Disk.{Disk, SameBut, Unchanged}
use Rattle.vdr_outside.proofs.Counts.{rose_after, sum_not_less}
use Rattle.vdr_terms.specs.Texts.{is_label}
use Rattle.vdr_config.specs.Configuration.{Configuration}
use Rattle.vdr_incident.specs.declared.refused.ReleaseRefused.{ReleaseRefused}
use Rattle.vdr_incident.specs.declared.refused.ReleaseRefused.TheVariants as releases
use Rattle.vdr_directory.specs.Sequence.{Placed}
use Rattle.vdr_opening.specs.Media.{members_with, Contents, HoldsContents, opening_of, reading_of}
use Rattle.vdr_opening.specs.declared.refused.OpenRefused.{OpenRefused}
use Rattle.vdr_recorder.specs.Recordings.{HasDone, HasRecorded, RecorderState}
use Rattle.vdr_vault.specs.Openings.{IsToldBy, OpensAtEachMoment}
use Rattle.vdr_vault.specs.Saves.{HasFaultOn, refusal_from, save_refusal}
use Rattle.vdr_vault.proofs.Stepping.{damaged_still}
use Rattle.vdr_vault.proofs.OpenMoments.{never_both}
use Rattle.vdr_vault.specs.Vaults.{IsDamagedOn, VaultState, ShowsHistory, Stands}
use Rattle.vdr_vault.specs.declared.refused.SaveRefused.{SaveRefused as Refused}
use Rattle.vdr_vault.specs.declared.refused.SaveRefused.TheVariants as saves
use Rattle.vdr_command.specs.Endings.{IsWorkDone}
use Rattle.vdr_command.specs.Opened.{AddsMissing, AreLooks, IfNoIncident, IsOpenableWith, IsOneEvent, IsUnbegun, KeepsContents, MayLeave, MediaEnds, MetUnsound, PrintsText, WasRecorded}
use Rattle.vdr_command.specs.Outside.{MediaSeen, OutputSeen}
use Rattle.vdr_tool.specs.Releases.{CanRelease, IsReleaseStatus, ReleasesId, status_of_release}
use Rattle.vdr_tool.specs.Saves.{CanSave, IfSaveRefused, IsJudged, SavesAs, cause_if, save_cause}
use Rattle.vdr_command.specs.Statuses.{status_of_save}
use Rattle.vdr_command.specs.declared.status.SaveCause.{SaveCause}
use Rattle.vdr_command.specs.declared.status.SaveCause.TheVariants.{Label, Nothing, TableFull}
use Rattle.vdr_command.specs.declared.status.Status.{Status}
use Rattle.vdr_command.specs.declared.status.Status.TheVariants.{Done, MediaFault, OutputFault, SaveRefused}
use Rattle.vdr_recorder.proofs.Playing.{config_read}
use Rattle.vdr_command.proofs.OpenedLemmas.{OpenedOn, done_either, kept_by_call, missing_looked, missing_still, one_look, opened_so, reads_done, worked_ends}

-- The text, or a front of it.
pub prints_as : (status : Status) (text other : List ℕ) (old new : OutputSeen) → text ≡ other → PrintsText text status old new → PrintsText other status old new
prints_as status text other old new same prints = subst (λ (t : List ℕ). PrintsText t status old new) same prints

-- An act that was acknowledged.
may_leave : (Does : Act → Type 0) (clock : ℕ) (status : Status) (events : List Event) → IsWorkDone status → IsOneEvent Does (Some clock) events → MayLeave Does clock status events
may_leave Does clock status events done one = ⊎_elim
    (λ (is : status ≡ Done). subst (λ (s : Status). MayLeave Does clock s events) (sym is) one)
    (λ (is : status ≡ OutputFault). subst (λ (s : Status). MayLeave Does clock s events) (sym is) one)
    (done_either status done)

-- A judgement is none of what a read or a write answers.
never_damaged : {P : Type 0} (labelled : Bool) (newest : Option (ℕ × ℤ)) (free : Option ℕ) (m offset : ℕ) → refusal_from labelled newest free ≡ Some (saves.Damaged m offset) → P
never_damaged false newest free m offset is = let none : ⊥ = cc in absurd none
never_damaged true None free m offset is = let none : ⊥ = cc in absurd none
never_damaged true (Some stamp) None m offset is = let none : ⊥ = cc in absurd none
never_damaged true (Some stamp) (Some slot) m offset is = let none : ⊥ = cc in absurd none

never_fault : {P : Type 0} (labelled : Bool) (newest : Option (ℕ × ℤ)) (free : Option ℕ) → refusal_from labelled newest free ≡ Some saves.Fault → P
never_fault false newest free is = let none : ⊥ = cc in absurd none
never_fault true None free is = let none : ⊥ = cc in absurd none
never_fault true (Some stamp) None is = let none : ⊥ = cc in absurd none
never_fault true (Some stamp) (Some slot) is = let none : ⊥ = cc in absurd none

module _ {tells tells_images : Type 0} (old mid new : MediaSeen tells tells_images) (r after : RecorderState)
    (works : r.vault.failed ≡ false)
    (parts : OpenedOn old.disk r.vault)
    (opened : (x : Contents) → tells → HoldsContents old.disk.reads x → WasRecorded x
    → (t0 : ℕ) × (old.disk.clock ≤ t0) × (t0 ≤ mid.disk.clock) × HasRecorded (opening_of x) [] t0 r mid.disk)
    (later : NoneFalls old.faults mid.faults) (others : tells → SameBut 1 old.disk.reads mid.disk.reads) (beside : tells → SameBut 1 mid.disk.reads new.disk.reads) where
  others_too : tells → SameBut 1 old.disk.reads new.disk.reads
  others_too t = λ k not_second. beside t k not_second ∙ others t k not_second

  rose : (faulted : Type 0) → HasFaultOn 1 r.vault.failed mid.faults new.faults faulted → faulted → Rose (sum old.faults) (sum new.faults)
  rose faulted cause is = ⊎_elim (λ (failed : r.vault.failed ≡ true). let clash : true ≡ false = sym failed ∙ works in let none : ⊥ = cc in absurd none)
      (λ (more : Rose (sum mid.faults) (sum new.faults)). rose_after (sum old.faults) (sum mid.faults) (sum new.faults) (sum_not_less old.faults mid.faults later.same_media later.none_falls) more)
      (cause.in_all is)

  standing : (x : Contents) → tells → HoldsContents old.disk.reads x → WasRecorded x → (placed : ℕ → List Placed) × Stands (opening_of x) [] r.vault placed mid.disk
  standing x t holds regular = let work = ((opened x t holds regular).3.works works).standing in (work.placed, work.stands)

  module _ (label : List ℕ) (saved : Result ℕ Refused)
      (saves_so : (opening : Opening) (events : List Event) (t0 : ℕ) → tells → r.vault.failed ≡ false → save_refusal label r.vault ≡ None → ((m offset : ℕ) → saved ≡ Err (saves.Damaged m offset) → ⊥)
      → HasRecorded opening events t0 r mid.disk → (id : ℕ) × (a : ℕ) × (b : ℕ) × IfOk saved (λ told. told ≡ id) × HasDone opening events t0 (Save id label a b) after mid.disk new.disk)
      (looked : (opening : Opening) (events : List Event) (t0 : ℕ) (refused : Refused) → (r.vault.failed ≡ true) ⊎ (save_refusal label r.vault ≡ Some refused)
      → HasRecorded opening events t0 r mid.disk → HasDone opening events t0 Look after mid.disk new.disk)
      (met_damage : (opening : Opening) (events : List Event) (t0 m offset : ℕ) → tells → saved ≡ Err (saves.Damaged m offset) → HasRecorded opening events t0 r mid.disk → HasDone opening events t0 Look after mid.disk new.disk)
      (refused_so : (refused : Refused) → r.vault.failed ≡ false → save_refusal label r.vault ≡ Some refused → saved ≡ Err refused)
      (undamaged : (opening : Opening) (events : List Event) (placed : ℕ → List Placed) (m offset : ℕ) → tells → Stands opening events r.vault placed mid.disk
      → saved ≡ Err (saves.Damaged m offset) → ⊥)
      (damaged : (m offset : ℕ) → saved ≡ Err (saves.Damaged m offset) → Unchanged mid.disk new.disk × (m ≡ 1) × (tells → (offset ≡ 0) ⊎ IsDamagedOn r.vault.config mid.disk m offset))
    where
      -- How the label is judged on these media.
      judged_as : (found : Option Refused) → save_refusal label r.vault ≡ found → (x : Contents) → IsToldBy x r.vault → IsJudged label (cause_if found) x
      judged_as found is x read =
          subst (λ (newest : Option (ℕ × ℤ)). save_cause label newest x.table ≡ cause_if found) read.last
          (subst (λ (table : List (Option Incident)). save_cause label r.vault.last table ≡ cause_if found) read.table (ap (λ (o : Option Refused). cause_if o) is))

      judged : (found : Option Refused) → save_refusal label r.vault ≡ found → tells → IsOpenableWith old.disk.reads (IsJudged label (cause_if found))
      judged found is = opened_so (IsJudged label (cause_if found)) old.disk r.vault parts (judged_as found is)

      -- What a recorder leaves is not damaged.
      unsound : (m offset : ℕ) → saved ≡ Err (saves.Damaged m offset) → tells → (x : Contents) → HoldsContents old.disk.reads x → WasRecorded x → ⊥
      unsound m offset is t x holds sound = let stands = standing x t holds sound in undamaged (opening_of x) [] stands.0 m offset t stands.1 is

      -- Where it met damage one of the slots is not intact, or not all records of the incident are there, and what the media hold is not
      -- sound.
      met : (m offset : ℕ) → saved ≡ Err (saves.Damaged m offset) → save_refusal label r.vault ≡ None → MetUnsound old.disk new.disk (CanSave label) m offset
      met m offset is none t =
          let named = damaged m offset is in (
            opened_so (λ x. CanSave label x × (m ≡ 1) × ((offset ≡ 0) ⊎ IsDamagedOn x.config new.disk m offset)) old.disk r.vault parts (λ x read. (
              judged_as None none x read,
              named.1,
              subst (λ (d : Configuration). (offset ≡ 0) ⊎ IsDamagedOn d new.disk m offset) read.config
                  (⊎_elim (λ (zero : offset ≡ 0). inl zero) (λ (damage : IsDamagedOn r.vault.config mid.disk m offset). inr (damaged_still r.vault.config mid.disk new.disk named.0.sizes (named.0.reads t) m offset damage)) (named.2 t)),
            )) t,
            unsound m offset is t,
          )

      -- Where the save is not refused by the judgement, nothing stands in its way.
      unrefused : (found : Option Refused) → save_refusal label r.vault ≡ found → ((refused : Refused) → save_refusal label r.vault ≡ Some refused → ⊥) → save_refusal label r.vault ≡ None
      unrefused None is not = is
      unrefused (Some refused) is not = absurd (not refused is)

      module _ {T : Type 0} (result : Result T OpenRefused)
          (moments : (x : Contents) → tells → HoldsContents old.disk.reads x → EndsMeet (members_with x.further) (reading_of x) → WasRecorded x → OpensAtEachMoment old.disk mid.disk result (ShowsHistory (opening_of x) [])) where
        kept_with_save : (moment : Option ℕ) (MayBe : List Event → Type 0) (status : Status) → (IsWorkDone status → after.vault.failed ≡ false) → save_refusal label r.vault ≡ None → ((m offset : ℕ) → saved ≡ Err (saves.Damaged m offset) → ⊥) → moment_of after.vault.failed new.disk.clock ≡ moment
            → ((events : List Event) → IsOneEvent (SavesAs label) moment events → MayBe events)
            → (x : Contents) → tells → HoldsContents old.disk.reads x → EndsMeet (members_with x.further) (reading_of x) → WasRecorded x → KeepsContents x MayBe status old.disk new.disk
        kept_with_save moment MayBe status works_still none whole is may x t holds meet regular =
            let has = opened x t holds regular in
            let save = saves_so (opening_of x) [] has.0 t works none whole has.3 in
            let done = save.4 in
            kept_by_call x (config_read old.disk.reads x holds) regular MayBe status old.disk mid.disk new.disk result (Save save.0 label save.1 save.2) refl r after has.0 (moments x t holds meet regular) has.1 has.2 done
            (λ worked told. reads_done x (Save save.0 label save.1 save.2) after has.0 mid.disk new.disk done (works_still worked) told)
            (may (done.event ∷ []) (record { event = done.event; is = refl; does = (save.0, save.1, save.2, done.act_is); moment_is = done.moment_is ∙ is }))

        kept_refused : (refused : Refused) (status : Status) → (IsWorkDone status → ⊥) → save_refusal label r.vault ≡ Some refused
            → (x : Contents) → tells → HoldsContents old.disk.reads x → EndsMeet (members_with x.further) (reading_of x) → WasRecorded x → KeepsContents x AreLooks status old.disk new.disk
        kept_refused refused status undone is x t holds meet regular =
            let has = opened x t holds regular in
            let done = looked (opening_of x) [] has.0 refused (inr is) has.3 in
            kept_by_call x (config_read old.disk.reads x holds) regular AreLooks status old.disk mid.disk new.disk result Look refl r after has.0 (moments x t holds meet regular) has.1 has.2 done
            (λ worked. absurd (undone worked)) (one_look done.event done.act_is)

        pub saved_ends : (status : Status) (id : ℕ) → IsWorkDone status → saved ≡ Ok id → ((saved ≡ Err saves.Fault → ⊥) → after.vault.failed ≡ false)
            → MediaEnds (CanSave label) (MetUnsound old.disk new.disk (CanSave label)) (MayLeave (SavesAs label) new.disk.clock status) old new status
        saved_ends status id done is works_on =
            let works_still = works_on (λ e. let clash : Ok id ≡ Err saves.Fault = sym is ∙ e in let no_one : ⊥ = cc in no_one) in
            let none = unrefused (save_refusal label r.vault) refl (λ refused e. let clash : Ok id ≡ Err refused = sym is ∙ refused_so refused works e in let no_one : ⊥ = cc in no_one) in
            worked_ends (CanSave label) (MetUnsound old.disk new.disk (CanSave label)) (MayLeave (SavesAs label) new.disk.clock status) old new status done
            (judged None none) others_too
            (kept_with_save (Some new.disk.clock) (MayLeave (SavesAs label) new.disk.clock status) status (λ worked. works_still) none (λ m offset e. let clash : Ok id ≡ Err (saves.Damaged m offset) = sym is ∙ e in let no_one : ⊥ = cc in no_one) (ap (λ (b : Bool). moment_of b new.disk.clock) works_still) (λ events one. may_leave (SavesAs label) new.disk.clock status events done one))

        module _ (reason : (refused : Refused) → saved ≡ Err refused → (refused ≡ saves.Label) ⊎ ((refused ≡ saves.Nothing) ⊎ (refused ≡ saves.TableFull))
            → (r.vault.failed ≡ false) × (save_refusal label r.vault ≡ Some refused))
            (fails : saved ≡ Err saves.Fault → after.vault.failed ≡ true)
            (cause : HasFaultOn 1 r.vault.failed mid.faults new.faults (saved ≡ Err saves.Fault)) where
          -- What a judgement never answers was not judged.
          unjudged : (refused : Refused) → saved ≡ Err refused → (save_refusal label r.vault ≡ Some refused → ⊥) → save_refusal label r.vault ≡ None
          unjudged refused is never = unrefused (save_refusal label r.vault) refl (λ other e.
              let both_are : Err refused ≡ Err other = sym is ∙ refused_so other works e in
              let same : other ≡ refused = cc in
              never (e ∙ ap (λ (x : Refused). Some x) same))

          by_judgement : (refused : Refused) (why : SaveCause) → save_refusal label r.vault ≡ Some refused
              → MediaEnds (CanSave label) (MetUnsound old.disk new.disk (CanSave label)) AreLooks old new (SaveRefused why)
          by_judgement refused why is = record {
            unformatted = λ e. let none : ⊥ = cc in absurd none;
            damaged = tt;
            fault = λ e. let none : ⊥ = cc in absurd none;
            openable = λ done. absurd done;
            others = others_too;
            blank = λ t un. absurd (never_both old.disk.reads (parts t).0 un);
            kept = λ x t holds meet regular. inr (kept_refused refused (SaveRefused why) (λ worked. worked) is x t holds meet regular);
          }

          pub unsaved_ends : (refused : Refused) → saved ≡ Err refused
              → MediaEnds (CanSave label) (MetUnsound old.disk new.disk (CanSave label)) (MayLeave (SavesAs label) new.disk.clock (status_of_save refused)) old new (status_of_save refused)
          unsaved_ends saves.Label is = by_judgement saves.Label Label (reason saves.Label is (inl refl)).1
          unsaved_ends saves.Nothing is = by_judgement saves.Nothing Nothing (reason saves.Nothing is (inr (inl refl))).1
          unsaved_ends saves.TableFull is = by_judgement saves.TableFull TableFull (reason saves.TableFull is (inr (inr refl))).1
          unsaved_ends (saves.Damaged m offset) is =
              let none = unjudged (saves.Damaged m offset) is (never_damaged (is_label label) r.vault.last (position is_none r.vault.table) m offset) in
              record {
                unformatted = λ e. let none : ⊥ = cc in absurd none;
                damaged = inr (met m offset is none);
                fault = λ e. let none : ⊥ = cc in absurd none;
                openable = λ done. absurd done;
                others = others_too;
                blank = λ t un. absurd (never_both old.disk.reads (parts t).0 un);
                kept = λ x t holds meet regular.
                    let has = opened x t holds regular in
                    let done = met_damage (opening_of x) [] has.0 m offset t is has.3 in
                    inr (kept_by_call x (config_read old.disk.reads x holds) regular AreLooks _ old.disk mid.disk new.disk result Look refl r after has.0 (moments x t holds meet regular) has.1 has.2 done
                    (λ worked. absurd worked) (one_look done.event done.act_is));
              }
          unsaved_ends saves.Fault is =
              let none = unjudged saves.Fault is (never_fault (is_label label) r.vault.last (position is_none r.vault.table)) in
              record {
                unformatted = λ e. let none : ⊥ = cc in absurd none;
                damaged = tt;
                fault = λ e. rose (saved ≡ Err saves.Fault) cause is;
                openable = λ done. absurd done;
                others = others_too;
                blank = λ t un. absurd (never_both old.disk.reads (parts t).0 un);
                kept = λ x t holds meet regular. inr (kept_with_save None (MayLeave (SavesAs label) new.disk.clock MediaFault) MediaFault (λ worked. absurd worked) none (λ m offset e. let clash : Err saves.Fault ≡ Err (saves.Damaged m offset) = sym is ∙ e in let no_one : ⊥ = cc in no_one) (ap (λ (b : Bool). moment_of b new.disk.clock) (fails is)) (λ events one. inr one) x t holds meet regular);
              }

          pub unsaved_refused : (refused : Refused) → saved ≡ Err refused → IfSaveRefused (status_of_save refused) (λ why. tells → IsOpenableWith old.disk.reads (IsJudged label (Some why)))
          unsaved_refused saves.Label is = judged (Some saves.Label) (reason saves.Label is (inl refl)).1
          unsaved_refused saves.Nothing is = judged (Some saves.Nothing) (reason saves.Nothing is (inr (inl refl))).1
          unsaved_refused saves.TableFull is = judged (Some saves.TableFull) (reason saves.TableFull is (inr (inr refl))).1
          unsaved_refused (saves.Damaged m offset) is = tt
          unsaved_refused saves.Fault is = tt

  module _ (id : ℕ) (released : Result ⊤ ReleaseRefused)
      (releases_so : (opening : Opening) (events : List Event) (t0 : ℕ) (saved : Incident) → tells → r.vault.failed ≡ false → live r.vault.table id ≡ Some saved → HasRecorded opening events t0 r mid.disk
      → HasDone opening events t0 (Release id) after mid.disk new.disk)
      (looked : (opening : Opening) (events : List Event) (t0 : ℕ) → (r.vault.failed ≡ true) ⊎ (live r.vault.table id ≡ None)
      → HasRecorded opening events t0 r mid.disk → HasDone opening events t0 Look after mid.disk new.disk)
      (refused_so : r.vault.failed ≡ false → live r.vault.table id ≡ None → released ≡ Err releases.NoSuch)
      (reason : released ≡ Err releases.NoSuch → (r.vault.failed ≡ false) × (live r.vault.table id ≡ None))
      (fails : released ≡ Err releases.Fault → after.vault.failed ≡ true)
      (works_on : (released ≡ Err releases.Fault → ⊥) → after.vault.failed ≡ false)
      (cause : HasFaultOn 1 r.vault.failed mid.faults new.faults (released ≡ Err releases.Fault)) where
    -- What is not refused is live.
    there : (found : Option Incident) → live r.vault.table id ≡ found → (released ≡ Err releases.NoSuch → ⊥) → (saved : Incident) × (live r.vault.table id ≡ Some saved)
    there None is not = absurd (not (refused_so works is))
    there (Some saved) is not = (saved, is)

    missing : live r.vault.table id ≡ None → tells → IsOpenableWith old.disk.reads (λ x. live x.table id ≡ None)
    missing none = opened_so (λ x. live x.table id ≡ None) old.disk r.vault parts (λ x read. subst (λ (table : List (Option Incident)). live table id ≡ None) read.table none)

    can : (saved : Incident) → live r.vault.table id ≡ Some saved → tells → IsOpenableWith old.disk.reads (λ x. CanRelease id x)
    can saved is = opened_so (λ x. CanRelease id x) old.disk r.vault parts (λ x read. (saved, subst (λ (table : List (Option Incident)). live table id ≡ Some saved) read.table is))

    module _ {T : Type 0} (result : Result T OpenRefused)
        (moments : (x : Contents) → tells → HoldsContents old.disk.reads x → EndsMeet (members_with x.further) (reading_of x) → WasRecorded x → OpensAtEachMoment old.disk mid.disk result (ShowsHistory (opening_of x) [])) where
      kept_with_release : (moment : Option ℕ) (MayBe : List Event → Type 0) (status : Status) → (IsWorkDone status → after.vault.failed ≡ false) → (saved : Incident) → live r.vault.table id ≡ Some saved → moment_of after.vault.failed new.disk.clock ≡ moment
          → ((events : List Event) → IsOneEvent (ReleasesId id) moment events → MayBe events)
          → (x : Contents) → tells → HoldsContents old.disk.reads x → EndsMeet (members_with x.further) (reading_of x) → WasRecorded x → KeepsContents x MayBe status old.disk new.disk
      kept_with_release moment MayBe status works_still saved live_is is may x t holds meet regular =
          let has = opened x t holds regular in
          let done = releases_so (opening_of x) [] has.0 saved t works live_is has.3 in
          kept_by_call x (config_read old.disk.reads x holds) regular MayBe status old.disk mid.disk new.disk result (Release id) refl r after has.0 (moments x t holds meet regular) has.1 has.2 done
          (λ worked told. reads_done x (Release id) after has.0 mid.disk new.disk done (works_still worked) told)
          (may (done.event ∷ []) (record { event = done.event; is = refl; does = done.act_is; moment_is = done.moment_is ∙ is }))

      pub released_ends : (p : Result ⊤ ReleaseRefused) → released ≡ p
          → MediaEnds (λ x. CanRelease id x) (λ m offset. ⊥) (MayLeave (ReleasesId id) new.disk.clock (status_of_release p id)) old new (status_of_release p id)
      released_ends (Ok u) is =
          let live_one = there (live r.vault.table id) refl (λ e. let clash : Ok u ≡ Err releases.NoSuch = sym is ∙ e in let none : ⊥ = cc in none) in
          let works_still = works_on (λ e. let clash : Ok u ≡ Err releases.Fault = sym is ∙ e in let none : ⊥ = cc in none) in
          worked_ends (λ x. CanRelease id x) (λ m offset. ⊥) (MayLeave (ReleasesId id) new.disk.clock Done) old new Done tt (can live_one.0 live_one.1) others_too
          (kept_with_release (Some new.disk.clock) (MayLeave (ReleasesId id) new.disk.clock Done) Done (λ worked. works_still) live_one.0 live_one.1 (ap (λ (b : Bool). moment_of b new.disk.clock) works_still) (λ events one. one))
      released_ends (Err releases.NoSuch) is = record {
        unformatted = λ e. let none : ⊥ = cc in absurd none;
        damaged = tt;
        fault = λ e. let none : ⊥ = cc in absurd none;
        openable = λ done. absurd done;
        others = others_too;
        blank = λ t un. absurd (never_both old.disk.reads (parts t).0 un);
        kept = λ x t holds meet regular.
            let has = opened x t holds regular in
            let done = looked (opening_of x) [] has.0 (inr (reason is).1) has.3 in
            inr (kept_by_call x (config_read old.disk.reads x holds) regular AreLooks _ old.disk mid.disk new.disk result Look refl r after has.0 (moments x t holds meet regular) has.1 has.2 done
            (λ worked. absurd worked) (one_look done.event done.act_is));
      }
      released_ends (Err releases.Fault) is =
          let live_one = there (live r.vault.table id) refl (λ e. let clash : Err releases.Fault ≡ Err releases.NoSuch = sym is ∙ e in let none : ⊥ = cc in none) in
          record {
            unformatted = λ e. let none : ⊥ = cc in absurd none;
            damaged = tt;
            fault = λ e. rose (released ≡ Err releases.Fault) cause is;
            openable = λ done. absurd done;
            others = others_too;
            blank = λ t un. absurd (never_both old.disk.reads (parts t).0 un);
            kept = λ x t holds meet regular. inr (kept_with_release None (MayLeave (ReleasesId id) new.disk.clock MediaFault) MediaFault (λ worked. absurd worked) live_one.0 live_one.1 (ap (λ (b : Bool). moment_of b new.disk.clock) (fails is)) (λ events one. inr one) x t holds meet regular);
          }

    pub released_missing : (p : Result ⊤ ReleaseRefused) → released ≡ p → IfNoIncident (status_of_release p id) (λ told. (told ≡ id) × (tells → IsOpenableWith old.disk.reads (λ x. live x.table id ≡ None)))
    released_missing (Ok u) is = tt
    released_missing (Err releases.NoSuch) is = (refl, missing (reason is).1)
    released_missing (Err releases.Fault) is = tt

-- A release has a status of its own.
pub release_status : (released : Result ⊤ ReleaseRefused) (id : ℕ) → IsReleaseStatus (status_of_release released id)
release_status (Ok x) id = tt
release_status (Err releases.NoSuch) id = tt
release_status (Err releases.Fault) id = tt

-- A refused save, and a refused release, write no more than opening did.
module _ {tells tells_images A : Type 0} (disk : A → Disk tells tells_images) (old : Disk tells tells_images) (mid new : A) (vault : VaultState) where
  pub unsaved_adds : (label : List ℕ) (saved : Result ℕ Refused) (refused : Refused) → saved ≡ Err refused → AddsMissing old (disk mid)
      → ((refused : Refused) → saved ≡ Err refused → (refused ≡ saves.Label) ⊎ ((refused ≡ saves.Nothing) ⊎ (refused ≡ saves.TableFull)) → (vault.failed ≡ false) × (save_refusal label vault ≡ Some refused))
      → ((refused : Refused) → vault.failed ≡ false → save_refusal label vault ≡ Some refused → new ≡ mid)
      → ((m offset : ℕ) → saved ≡ Err (saves.Damaged m offset) → Unchanged (disk mid) (disk new))
      → IsUnbegun (status_of_save refused) → AddsMissing old (disk new)
  unsaved_adds label saved saves.Label is adds reason refused damaged unbegun =
      let why = reason saves.Label is (inl refl) in missing_still disk old mid new adds (refused saves.Label why.0 why.1)
  unsaved_adds label saved saves.Nothing is adds reason refused damaged unbegun =
      let why = reason saves.Nothing is (inr (inl refl)) in missing_still disk old mid new adds (refused saves.Nothing why.0 why.1)
  unsaved_adds label saved saves.TableFull is adds reason refused damaged unbegun =
      let why = reason saves.TableFull is (inr (inr refl)) in missing_still disk old mid new adds (refused saves.TableFull why.0 why.1)
  unsaved_adds label saved (saves.Damaged m offset) is adds reason refused damaged unbegun = missing_looked old (disk mid) (disk new) adds (damaged m offset is)
  unsaved_adds label saved saves.Fault is adds reason refused damaged unbegun = absurd unbegun

  pub unreleased_adds : (id : ℕ) {released : Result ⊤ ReleaseRefused} (p : Result ⊤ ReleaseRefused) → released ≡ p → AddsMissing old (disk mid)
      → (released ≡ Err releases.NoSuch → (vault.failed ≡ false) × (live vault.table id ≡ None)) → (vault.failed ≡ false → live vault.table id ≡ None → new ≡ mid)
      → IsUnbegun (status_of_release p id) → AddsMissing old (disk new)
  unreleased_adds id (Ok u) is adds reason refused unbegun = absurd unbegun
  unreleased_adds id (Err releases.NoSuch) is adds reason refused unbegun = let why = reason is in missing_still disk old mid new adds (refused why.0 why.1)
  unreleased_adds id (Err releases.Fault) is adds reason refused unbegun = absurd unbegun

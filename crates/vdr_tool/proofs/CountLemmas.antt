-- What counting the windows answers, from what opening the media and two visits ensure.
use Rattle.std.specs.Prelude.{◌++◌, Option, ⊤}
use Rattle.std.proofs.Common.{◌≡◌, ◌≤◌, ◌⊎◌, inl, inr, ℕ, Bool, true, false, List, [], Result, Ok, Err, refl, sym, ap, subst, ◌∙◌, append-nil}
use Rattle.vdr_terms.specs.Queries.{Query}
use Rattle.vdr_terms.specs.Records.{Record}
use Rattle.vdr_outside.specs.Disk.{Disk, Image, SameBut, Unchanged}
use Rattle.vdr_outside.specs.Moments.{AtEachMoment}
use Rattle.vdr_outside.proofs.Moments.{moments_and_reads, moments_weaken, unchanged_join}
use Rattle.vdr_config.specs.Sizes.{window_of}
use Rattle.vdr_media.specs.Formatted.{IsFormatted, IsUnformatted}
use Rattle.vdr_entry.specs.Queries.{asked_medium}
use Rattle.vdr_entry.specs.declared.query.Medium.{Medium}
use Rattle.vdr_entry.specs.declared.query.Medium.TheVariants.{Capsule, LongTerm}
use Rattle.vdr_core.specs.Histories.{Event, Opening}
use Rattle.vdr_core.specs.Histories as histories
use Rattle.vdr_durability.specs.Playback.{selected}
use Rattle.vdr_directory.specs.Sequence.{Placed}
use Rattle.vdr_opening.specs.Media.{members_with, Contents, HoldsContents, opening_of, reading_of}
use Rattle.vdr_opening.specs.Refusals.{IsRefused}
use Rattle.vdr_opening.specs.declared.refused.OpenRefused.{OpenRefused}
use Rattle.vdr_opening.specs.declared.refused.OpenRefused.TheVariants as openings
use Rattle.vdr_durability.specs.Readings.{EndsMeet}
use Rattle.vdr_vault.specs.Openings.{OpensAtEachMoment}
use Rattle.vdr_vault.specs.Regularity.{AreSound}
use Rattle.vdr_vault.specs.Vaults.{IsReadable, VaultState, ShowsHistory, Stands}
use Rattle.vdr_vault.proofs.Playing.{stands_to_read}
use Rattle.vdr_recorder.proofs.Resting.{stand_reads}
use Rattle.vdr_visit.specs.Refusals.{IsAccepted, lacks_incident}
use Rattle.vdr_visit.specs.Visits.{AreVisited}
use Rattle.vdr_visit.specs.declared.visit_refused.VisitRefused.{VisitRefused}
use Rattle.vdr_visit.specs.declared.visit_refused.VisitRefused.TheVariants as visits
use Rattle.vdr_recorder.specs.Looks.{HasLooked}
use Rattle.vdr_recorder.specs.Recordings.{HasRecorded, RecorderState}
use Rattle.vdr_command.specs.Opened.{OneAnswer}
use Rattle.vdr_command.specs.Statuses.{status_of_opening}
use Rattle.vdr_command.specs.declared.status.Status.{Status}
use Rattle.vdr_command.specs.declared.status.Status.TheVariants.{MediaFault}
use Rattle.vdr_tool.specs.TrialParts.{CountsRecords, CountsWindows, IsOwnStatus, IsRunStatus, as_u64, cause_of, whole}
use Rattle.vdr_tool.specs.Trials.{window_count}
use Rattle.vdr_tool.specs.declared.trying.Windows.{Windows}

-- A window is asked for, and no incident.
pub no_incident : (table : List (Option histories.Incident)) (medium : Medium) → (medium ≡ Capsule) ⊎ (medium ≡ LongTerm) → lacks_incident table (asked_medium medium) ≡ false
no_incident table medium (inl is) = ap (λ (m : Medium). lacks_incident table (asked_medium m)) is
no_incident table medium (inr is) = ap (λ (m : Medium). lacks_incident table (asked_medium m)) is

-- Neither a channel nor an incident is missing.
module _ {R : Type 0} (stop : VisitRefused R) (incident : Bool) (none : incident ≡ false) (accepted : IsAccepted false incident (Err stop)) where
  has_channel : ◌≡◌ {A = Result ⊤ (VisitRefused R)} (Err stop) (Err visits.NoChannel) → ⊥
  has_channel is = let clash : false ≡ true = accepted.channel.0 is in let no_one : ⊥ = cc in no_one

  has_incident : ◌≡◌ {A = Result ⊤ (VisitRefused R)} (Err stop) (Err visits.NoIncident) → ⊥
  has_incident is = let k = (accepted.incident.0 is).1 in let clash : false ≡ true = sym none ∙ k in let no_one : ⊥ = cc in no_one

pub run_stop : {R : Type 0} (stop : VisitRefused R) (incident : Bool) → incident ≡ false → IsAccepted false incident (Err stop) → (◌≡◌ {A = Result ⊤ (VisitRefused R)} (Err stop) (Err visits.Output) → ⊥) → IsRunStatus (cause_of stop)
run_stop visits.NoChannel incident none accepted output = has_channel visits.NoChannel incident none accepted refl
run_stop visits.NoIncident incident none accepted output = has_incident visits.NoIncident incident none accepted refl
run_stop visits.Fault incident none accepted output = tt
run_stop (visits.Damaged m offset) incident none accepted output = tt
run_stop visits.Output incident none accepted output = output refl
run_stop (visits.Own reason) incident none accepted output = tt

pub own_stop : {R : Type 0} (stop : VisitRefused R) (incident : Bool) → incident ≡ false → IsAccepted false incident (Err stop) → (◌≡◌ {A = Result ⊤ (VisitRefused R)} (Err stop) (Err visits.Output) → ⊥)
    → (seen records : List Record) → AreVisited {R = R} seen records (Err stop) → IsOwnStatus (cause_of stop)
own_stop visits.NoChannel incident none accepted output seen records are = absurd (has_channel visits.NoChannel incident none accepted refl)
own_stop visits.NoIncident incident none accepted output seen records are = absurd (has_incident visits.NoIncident incident none accepted refl)
own_stop visits.Fault incident none accepted output seen records are = tt
own_stop (visits.Damaged m offset) incident none accepted output seen records are = absurd are
own_stop visits.Output incident none accepted output seen records are = absurd (output refl)
own_stop (visits.Own reason) incident none accepted output seen records are = tt

pub fault_is : {R : Type 0} (stop : VisitRefused R) → cause_of stop ≡ MediaFault → ◌≡◌ {A = Result ⊤ (VisitRefused R)} (Err stop) (Err visits.Fault)
fault_is visits.NoChannel is = let none : ⊥ = cc in absurd none
fault_is visits.NoIncident is = let none : ⊥ = cc in absurd none
fault_is visits.Fault is = refl
fault_is (visits.Damaged m offset) is = let none : ⊥ = cc in absurd none
fault_is visits.Output is = let none : ⊥ = cc in absurd none
fault_is (visits.Own reason) is = let none : ⊥ = cc in absurd none

-- Opening

pub open_stop : (refused : OpenRefused) → IsRunStatus (status_of_opening refused)
open_stop openings.NoMemory = tt
open_stop openings.NotFormatted = tt
open_stop (openings.Damaged m offset) = tt
open_stop openings.Fault = tt

pub open_fault : (refused : OpenRefused) → status_of_opening refused ≡ MediaFault → refused ≡ openings.Fault
open_fault openings.NoMemory is = let none : ⊥ = cc in absurd none
open_fault openings.NotFormatted is = let none : ⊥ = cc in absurd none
open_fault (openings.Damaged m offset) is = let none : ⊥ = cc in absurd none
open_fault openings.Fault is = refl

-- Media that a recorder left are not refused.
pub open_own : {T : Type 0} (image : Image) (law : OneAnswer image) (x : Contents) → HoldsContents image x → EndsMeet (members_with x.further) (reading_of x) → (refused : OpenRefused) (result : Result T OpenRefused) → result ≡ Err refused
    → (result ≡ Err openings.NotFormatted → IsUnformatted image) → ((m offset : ℕ) → result ≡ Err (openings.Damaged m offset) → IsFormatted image × IsRefused image m offset) → IsOwnStatus (status_of_opening refused)
open_own image law x holds meet openings.NoMemory result is unformatted damaged = tt
open_own image law x holds meet openings.NotFormatted result is unformatted damaged = absurd (law.formatted x holds (unformatted is))
open_own image law x holds meet (openings.Damaged m offset) result is unformatted damaged = absurd (law.either x m offset holds meet (damaged m offset is).1)
open_own image law x holds meet openings.Fault result is unformatted damaged = tt

module _ {tells tells_images : Type 0} where
  -- What a look is said to have been answered.
  pub looked_as : (query : Query) (r s : RecorderState) (old new : Disk tells tells_images) (read_before read_now faults_before faults_now : List ℕ) (first second : Type 0)
      → (second → first) → HasLooked query r s old new read_before read_now faults_before faults_now first → HasLooked query r s old new read_before read_now faults_before faults_now second
  looked_as query r s old new read_before read_now faults_before faults_now first second to h = record {
    read = h.read;
    maker = h.maker;
    is_open = h.is_open;
    done = h.done;
    cause = record { later = h.cause.later; on_medium = λ is. h.cause.on_medium (to is); in_all = λ is. h.cause.in_all (to is) };
  }

  pub open_moments : {T : Type 0} (old new : Disk tells tells_images) (result : Result T OpenRefused) (shows : Image → Type 0) → OpensAtEachMoment old new result shows
      → AtEachMoment old new (λ image. old.now image ⊎ shows image)
  open_moments old new result shows (inl ends) = moments_weaken old new (λ image. old.now image) (λ image. old.now image ⊎ shows image) ends.moments (λ image now. inl now)
  open_moments old new result shows (inr goes) = goes.moments

  pub then_reads : (old mid new : Disk tells tells_images) → tells → SameBut 1 old.reads mid.reads → Unchanged mid new → SameBut 1 old.reads new.reads
  then_reads old mid new told others same = subst (λ (image : Image). SameBut 1 old.reads image) (sym (same.reads told)) others

-- The records of a window, with none of a run that was not begun.
counted_of : (m seconds : ℕ) (n : ℕ) (records : List Record) → n ≡ as_u64 (window_count m seconds (records ++ [])) → n ≡ as_u64 (window_count m seconds records)
counted_of m seconds n records is = is ∙ ap (λ (rs : List Record). as_u64 (window_count m seconds rs)) (append-nil records)

-- Media were opened that held these contents, and their windows were counted.
module _ {tells tells_images : Type 0} (old mid : Disk tells tells_images) (r : RecorderState) (works : r.vault.failed ≡ false)
    (opened : (x : Contents) → tells → HoldsContents old.reads x → AreSound x → (t0 : ℕ) × (old.clock ≤ t0) × (t0 ≤ mid.clock) × HasRecorded (opening_of x) [] t0 r mid)
    (x : Contents) (told : tells) (holds : HoldsContents old.reads x) (sound : AreSound x) (moments : AtEachMoment old mid (λ image. old.now image ⊎ ShowsHistory (opening_of x) [] image)) where
  standing : (placed : ℕ → List Placed) × Stands (opening_of x) [] r.vault placed mid
  standing =
      let has = opened x told holds sound in
      let work = (has.3.works works).standing in
      (work.placed, work.stands)

  to_read : IsReadable (opening_of x) [] r.vault standing.0 mid
  to_read = stands_to_read (opening_of x) [] r.vault standing.0 mid standing.1

  abbrev pub Counted : (medium : Medium) → VaultState → Disk tells tells_images → Result ℕ Status → Type 0
  Counted medium vault disk result = (opening : Opening) (events : List Event) (placed : ℕ → List Placed) → tells → IsReadable opening events vault placed disk → CountsRecords (selected opening events (whole medium)) result

  abbrev pub Reads : (before after : VaultState) → (first then : Disk tells tells_images) → Type 0
  Reads before after first then = (opening : Opening) (events : List Event) (placed : ℕ → List Placed) → IsReadable opening events before placed first → IsReadable opening events after placed then

  abbrev pub Rests : (before after : VaultState) → (first then : Disk tells tells_images) → Type 0
  Rests before after first then = (opening : Opening) (events : List Event) (placed : ℕ → List Placed) → Stands opening events before placed first → Stands opening events after placed then

  pub first_stopped : (new : Disk tells tells_images) (status : Status) → Unchanged mid new → Counted Capsule r.vault mid (Err status) → CountsWindows x old new (Err status)
  first_stopped new status same counted = record {
    cause = counted (opening_of x) [] standing.0 told to_read;
    moments = moments_and_reads old mid new (λ image. old.now image ⊎ ShowsHistory (opening_of x) [] image) moments same;
    counted = tt;
  }

  module _ (next new : Disk tells tells_images) (s : VaultState) (first : Unchanged mid next) (then : Unchanged next new) (reads : Reads r.vault s mid next) where
    pub second_stopped : (status : Status) → Counted LongTerm s next (Err status) → CountsWindows x old new (Err status)
    second_stopped status counted = record {
      cause = counted (opening_of x) [] standing.0 told (reads (opening_of x) [] standing.0 to_read);
      moments = moments_and_reads old mid new (λ image. old.now image ⊎ ShowsHistory (opening_of x) [] image) moments (unchanged_join mid next new first then);
      counted = tt;
    }

    pub both_counted : (last : VaultState) (n : Windows) → Rests r.vault s mid next → Rests s last next new → Counted Capsule r.vault mid (Ok n.capsule) → Counted LongTerm s next (Ok n.long_term) → CountsWindows x old new (Ok n)
    both_counted last n rests again capsule long_term = record {
      cause = tt;
      moments = moments_and_reads old mid new (λ image. old.now image ⊎ ShowsHistory (opening_of x) [] image) moments (unchanged_join mid next new first then);
      counted = (
        stand_reads (opening_of x) [] last standing.0 new (again (opening_of x) [] standing.0 (rests (opening_of x) [] standing.0 standing.1)) told,
        counted_of 0 (window_of x.config 0) n.capsule ((opening_of x).records 0) (capsule (opening_of x) [] standing.0 told to_read),
        counted_of 1 (window_of x.config 1) n.long_term ((opening_of x).records 1) (long_term (opening_of x) [] standing.0 told (reads (opening_of x) [] standing.0 to_read)),
      );
    }

-- What a session leaves under its media, by the marks of its turns and what came after them.
use Rattle.std.specs.Prelude.{◌≡◌, ◌⊎◌, ◌++◌, ℕ, Bool, true, false, List, [], sum, Option}
use Rattle.vdr_terms.specs.declared.counts.Counts.{Counts}
use Rattle.vdr_terms.specs.Records.{none_missed}
use Rattle.vdr_core.specs.Histories.{Event, Opening, recorded}
use Rattle.vdr_core.specs.Recorder.{closed_run}
use Rattle.vdr_durability.specs.Keeping.{IsWhole}
use Rattle.vdr_intake.specs.Ends.{QueueId, Taking}
use Rattle.vdr_outside.specs.Causes.{NoneFalls, Rose}
use Rattle.vdr_outside.specs.Disk.{Disk}
use Rattle.vdr_outside.specs.declared.port.Port.{Ghosts as PortTells}
use Rattle.vdr_opening.specs.Media.{members_with}
use Rattle.vdr_vault.specs.Calls.{SameElsewhere}
use Rattle.vdr_capture.specs.declared.lane.Lane.{Lane}
use Rattle.vdr_capture.specs.declared.sums.Outcome.{Outcome}
use Rattle.vdr_capture.specs.declared.sums.Outcome.TheVariants as outcomes
use Rattle.vdr_run.specs.Making.{CountsItems}
use Rattle.vdr_recorder.specs.Recordings.{HasRecorded, RecorderState, start_of_opening}
use Rattle.vdr_recorder.specs.Watched.{Tells, Watched}
use Rattle.vdr_session.specs.declared.mark.Mark.{Mark}
use Rattle.vdr_session.specs.declared.records.Began.{Began}
use Rattle.vdr_session.specs.declared.records.Began.TheVariants.{Begun, Place, Tick, Fault}
use Rattle.vdr_session.specs.Closed.{HasClosed}
use Rattle.vdr_session.specs.Feeding.{AreMissed}
use Rattle.vdr_session.specs.Events.{events_of, run_records}
use Rattle.vdr_session.specs.Marks.{has_fault, is_begun, taken_in}
use Rattle.vdr_session.specs.Origins.{RoseBy, failures_in, origins_of}
use Rattle.vdr_session.specs.Standing.{Before, PassesSince, StartMeans}

-- What a start and its end are told as. A run that was begun was closed, or the media failed.
abbrev pub IsToldAs : Began → Outcome → Type 0
IsToldAs Begun outcome = (outcome ≡ outcomes.Done) ⊎ (outcome ≡ outcomes.MediaFault)
IsToldAs Place outcome = outcome ≡ outcomes.Place
IsToldAs Tick outcome = outcome ≡ outcomes.Tick
IsToldAs Fault outcome = outcome ≡ outcomes.MediaFault

-- A failure of a port or of a link is told in place of a close.
abbrev pub IsWithFailures : Outcome → Outcome → Type 0
IsWithFailures outcome end = (end ≡ outcome) ⊎ ((outcome ≡ outcomes.Done) × (((g : ℕ) × (end ≡ outcomes.PortFault g)) ⊎ ((i : ℕ) × (end ≡ outcomes.LinkFault i))))

module _ {tells tells_images : Type 0} where
  -- The history that the marks tell, or that history and the close of its run.
  pub record EndsRun (before : Before) (opening : Opening) (marks : List Mark) (t0 : ℕ) (rest : ℕ → Counts) (outcome : Outcome) (r : RecorderState) (disk : Disk tells tells_images) (w : Watched) : Type 0 where
    pub events : List Event
    pub behind : List Event
    pub front : events ≡ events_of opening marks ++ behind
    pub has : HasRecorded opening events t0 r disk
    pub passes : PassesSince before opening events disk
    pub heard : Tells before.hears opening [] events before.heard w
    pub pending : IsWhole events ⊎ (outcome ≡ outcomes.MediaFault)
    pub records : (recorded events ≡ run_records opening marks)
        ⊎ ((recorded events ≡ closed_run (start_of_opening opening) (taken_in marks) rest) × (is_begun marks ≡ true) × (has_fault marks ≡ false))
    pub closed : outcome ≡ outcomes.Done → (recorded events ≡ closed_run (start_of_opening opening) (taken_in marks) rest) × CountsItems (start_of_opening opening) (taken_in marks) r.maker

  -- The session ended so.
  pub record HasEnded {P : Type 0} (port_tells : PortTells P) (turns : ℕ) (configured : ℕ → Bool) (queues : List (Option QueueId)) (takers_before takers_after : List (Option Taking)) (old new : List (Lane P))
      (before : Before) (opened : Opening → ℕ → Type 0) (sizes faults : List ℕ) (beside : Began → List Mark → Type 0) (outcome : Outcome) (r : RecorderState) (disk : Disk tells tells_images) (now : List ℕ) (w : Watched) : Type 0 where
    pub marks : List Mark
    pub began : Began
    pub besides : beside began marks
    pub missed_rose : RoseBy (failures_in (origins_of marks)) (sum faults) (sum now)
    pub lanes : HasClosed port_tells turns configured queues takers_before takers_after old new began marks
    pub told_as : IsToldAs began outcome
    pub rest : ℕ → Counts
    pub missed : began ≡ Begun → AreMissed queues new rest
    pub quiet : (began ≡ Begun → ⊥) → (g : ℕ) → rest g ≡ none_missed
    pub works : outcome ≡ outcomes.Done → (has_fault marks ≡ false) × (r.vault.failed ≡ false)
    pub later : NoneFalls faults now
    pub rose : outcome ≡ outcomes.MediaFault → Rose (sum faults) (sum now)
    pub sizes_are : disk.sizes ≡ sizes
    pub elsewhere : tells → SameElsewhere (members_with 0) before.reads disk.reads
    pub told : tells → (opening : Opening) (t0 : ℕ) → opened opening t0 → EndsRun before opening marks t0 rest outcome r disk w × StartMeans opening began

-- A recorder under the latch, after these marks.
use Rattle.std.specs.Prelude.{◌≡◌, ◌≢◌, ◌≤◌, ◌<◌, ◌⊎◌, ◌↔◌, ◌+◌, ◌*◌, ◌^◌, ℕ, Bool, true, false, List, [], length, cond, sum, All, option_map, Option, None, ⊤}
use Rattle.vdr_terms.specs.Counting.{next_number}
use Rattle.vdr_core.specs.Histories.{Event, Opening, recorded}
use Rattle.vdr_core.specs.RunStates.{next_start, state_left}
use Rattle.vdr_core.specs.Runs.{RunStart, base_after}
use Rattle.vdr_terms.specs.declared.rate.Rate.{Rate}
use Rattle.vdr_config.specs.Configuration.{Selector}
use Rattle.vdr_durability.specs.Keeping.{ShowsPrefix, moment_of}
use Rattle.vdr_core.specs.Taken.{Captured}
use Rattle.vdr_outside.specs.Causes.{NoneFalls, Rose}
use Rattle.vdr_outside.specs.Disk.{Disk, Image}
use Rattle.vdr_opening.specs.Media.{members_with}
use Rattle.vdr_vault.specs.Calls.{SameElsewhere}
use Rattle.vdr_vault.specs.Vaults.{AreRings, ShowsHistory, VaultState}
use Rattle.vdr_run.specs.Making.{counted_of}
use Rattle.vdr_run.specs.Starts.{stamp_of}
use Rattle.vdr_recorder.specs.Making.{MakesBy, numbers_of}
use Rattle.vdr_recorder.specs.Recordings.{HasRecorded, RecorderState, start_of_opening}
use Rattle.vdr_recorder.specs.Refusals.{MayBegin}
use Rattle.vdr_recorder.specs.Watched.{IsWatched, Tells, Watched}
use Rattle.vdr_session.specs.declared.mark.Mark.{Mark}
use Rattle.vdr_session.specs.declared.mark.Did.TheVariants.{Begin, Take, Look}
use Rattle.vdr_session.specs.declared.records.Began.{Began}
use Rattle.vdr_session.specs.declared.records.Began.TheVariants.{Begun, Place, Tick, Fault}
use Rattle.vdr_session.specs.Events.{events_of, is_started, run_records}
use Rattle.vdr_session.specs.Marks.{is_begun, taken_in}
use Rattle.vdr_session.specs.Origins.{RoseBy, failures_in, origins_of}

-- The maker has taken the items of the run, and their places and numbers stay small: an item takes two places at most, and its numbers.
pub record HasTaken (marks : List Mark) (r : RecorderState) : Type 0 where
  pub makes : (start : RunStart) × MakesBy r.vault.config start (taken_in marks) r.maker
  pub place : r.maker.place ≤ 2 ^ 62 + 2 * length (taken_in marks)
  pub numbers : (g : ℕ) → g < 16 → next_number (counted_of r.maker g).pending ≤ numbers_of g (taken_in marks)

-- A run may begin by what the vault tells: its first place and its base are below 2^62.
pub record MayStart (vault : VaultState) : Type 0 where
  pub place : vault.next_place < 2 ^ 62
  pub base : base_after (option_map stamp_of vault.last) < 2 ^ 62

-- Whether a run is open, how far it is, and that none is refused yet where none was begun.
pub record IsAt (marks : List Mark) (r : RecorderState) : Type 0 where
  pub open_is : is_begun marks ≡ true → (r.is_open ≡ true) × HasTaken marks r
  pub idle : is_started marks ≡ false → (r.is_open ≡ false) × (taken_in marks ≡ [])
  pub whole : r.vault.failed ≡ false → All (λ m. m.moment ≢ None) marks
  pub ready : is_started marks ≡ false → MayStart r.vault

-- The media as the session began: what a stop might have left of them then.
pub record Before : Type 1 where
  pub clock : ℕ
  pub now : Image → Type 0
  pub since : ℕ → Image → Type 0
  pub until : ℕ → Image → Type 0
  pub reads : Image  -- what the media read as, where that is told
  pub channels : List Selector  -- of the configuration
  pub hears : Type 0  -- an object outside hears of the session
  pub heard : Watched  -- what it had been told then

-- What it means that a start was answered so.
abbrev pub StartMeans : Opening → Began → Type 0
StartMeans opening Begun = MayBegin opening
StartMeans opening Place = 2 ^ 62 ≤ opening.next_place
StartMeans opening Tick = (opening.next_place < 2 ^ 62) × (2 ^ 62 ≤ base_after opening.last)
StartMeans opening Fault = ⊤

-- A start was not refused.
pub record IsNoRefusal (began : Began) : Type 0 where
  pub place : began ≡ Place → ⊥
  pub tick : began ≡ Tick → ⊥

module _ {tells tells_images : Type 0} where
  -- At every moment since then a stop leaves what it might have left then, or what shows the first of these events.
  pub record PassesSince (before : Before) (opening : Opening) (events : List Event) (disk : Disk tells tells_images) : Type 0 where
    pub later : before.clock ≤ disk.clock
    pub each : (i : Image) → disk.since before.clock i → before.now i ⊎ ShowsPrefix (ShowsHistory opening) events 0 i
    pub earlier : (t : ℕ) (i : Image) → t ≤ before.clock → disk.since t i → before.since t i ⊎ (before.now i ⊎ ShowsPrefix (ShowsHistory opening) events 0 i)
    pub past : (t : ℕ) (i : Image) → t ≤ before.clock → disk.until t i ↔ before.until t i

  -- The recorder has made the history that the marks tell: its records are those of the one run.
  pub record HasSession (before : Before) (opening : Opening) (marks : List Mark) (t0 : ℕ) (r : RecorderState) (disk : Disk tells tells_images) (w : Watched) : Type 0 where
    pub has : HasRecorded opening (events_of opening marks) t0 r disk
    pub made : recorded (events_of opening marks) ≡ run_records opening marks
    pub begun : r.vault.failed ≡ false → is_begun marks ≡ true
        → ((state_left opening (events_of opening marks)).start ≡ start_of_opening opening) × ((state_left opening (events_of opening marks)).popped ≡ taken_in marks)
    pub next : r.vault.failed ≡ false → is_started marks ≡ false → next_start (state_left opening (events_of opening marks)) ≡ start_of_opening opening
    pub passes : PassesSince before opening (events_of opening marks) disk
    pub heard : Tells before.hears opening [] (events_of opening marks) before.heard w

  -- What holds of it and its media at home, where the object outside was told so much.
  pub record IsKept (before : Before) (began : Opening → ℕ → Type 0) (rates : List (Option Rate)) (room : ℕ) (sizes faults : List ℕ) (marks : List Mark) (w : Watched) (r : RecorderState) (disk : Disk tells tells_images) (now : List ℕ) : Type 0 where
    pub rates_are : r.vault.config.groups ≡ rates
    pub sixteen : length rates ≡ 16
    pub room_is : r.vault.config.batch ≡ room
    pub rings : AreRings r.vault disk.sizes
    pub sizes_are : disk.sizes ≡ sizes
    pub elsewhere : tells → SameElsewhere (members_with 0) before.reads disk.reads
    pub later : NoneFalls faults now
    pub rose : r.vault.failed ≡ true → Rose (sum faults) (sum now)
    pub stage : IsAt marks r
    pub channels_are : r.vault.config.channels ≡ before.channels
    pub missed : RoseBy (failures_in (origins_of marks)) (sum faults) (sum now)
    pub told : tells → (opening : Opening) (t0 : ℕ) → began opening t0 → HasSession before opening marks t0 r disk w
    pub watched : IsWatched before.hears w r disk

  -- A run is open in which these items were taken, and its numbers are small.
  pub record IsTaking (rates : List (Option Rate)) (room : ℕ) (popped : List Captured) (hears : Type 0) (w : Watched) (r : RecorderState) (disk : Disk tells tells_images) : Type 0 where
    pub watched : IsWatched hears w r disk
    pub rings : AreRings r.vault disk.sizes
    pub open_is : r.is_open ≡ true
    pub rates_are : r.vault.config.groups ≡ rates
    pub sixteen : length rates ≡ 16
    pub room_is : r.vault.config.batch ≡ room
    pub makes : (start : RunStart) × MakesBy r.vault.config start popped r.maker
    pub place : r.maker.place ≤ 2 ^ 62 + 2 * length popped
    pub numbers : (g : ℕ) → g < 16 → next_number (counted_of r.maker g).pending ≤ numbers_of g popped

  pub record IsFresh (hears : Type 0) (w : Watched) (r : RecorderState) (disk : Disk tells tells_images) : Type 0 where
    pub watched : IsWatched hears w r disk
    pub rings : AreRings r.vault disk.sizes
    pub closed : r.is_open ≡ false

-- The mark of a batch: a look where the media had failed before.
abbrev pub batch_mark : (failed : Bool) → List Captured → (failed_after : Bool) → ℕ → Mark
batch_mark failed items failed_after clock = record { did = cond failed Look (Take items); moment = moment_of failed_after clock; desk = None }

-- The mark of a start: it began the run, or met a fault in it; else it was refused.
abbrev pub start_mark : RecorderState → RecorderState → ℕ → Mark
start_mark old new clock = record { did = cond old.vault.failed Look (cond new.is_open Begin (cond new.vault.failed Begin Look)); moment = moment_of new.vault.failed clock; desk = None }

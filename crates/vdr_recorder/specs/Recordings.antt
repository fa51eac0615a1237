-- A recorder over its media: each of its calls is one event of one history.
use Rattle.std.specs.Prelude.{◌≡◌, ◌⊎◌, ◌∷◌, ◌++◌, ℕ, Bool, true, false, List, [], map, All, option_map}
use Rattle.vdr_core.specs.Histories.{Act, Event, IsHistory, Opening, done, incidents}
use Rattle.vdr_core.specs.Runs.{RunStart}
use Rattle.vdr_core.specs.Taken.{Captured}
use Rattle.vdr_core.specs.RunStates.{IsRecorderHistory, has_failed, state_left}
use Rattle.vdr_durability.specs.Media.{IsMediumOf}
use Rattle.vdr_durability.specs.Keeping.{Keeps, RiseFrom, ShowsPrefix, moment_of}
use Rattle.vdr_outside.specs.Disk.{Disk}
use Rattle.vdr_outside.specs.Moments.{AtEachMoment}
use Rattle.vdr_config.specs.Configuration.{IsConfiguration}
use Rattle.vdr_config.specs.Sizes.{sizes_of}
use Rattle.vdr_directory.specs.Sequence.{Placed, segments_in}
use Rattle.vdr_opening.specs.Answers.{members_on}
use Rattle.vdr_vault.specs.Vaults.{VaultState, ShowsHistory, Stands, of_stamp}
use Rattle.vdr_run.specs.declared.maker.Maker.{Maker}
use Rattle.vdr_recorder.specs.Making.{HasRoom, MakesBy}

-- A recorder without its media: the vault, what the present run has counted, and whether a run is open.
pub record RecorderState : Type 0 where
  pub vault : VaultState
  pub maker : Maker
  pub is_open : Bool

-- The configuration is legal, the maker has room for what a call makes, and where a run is open it has counted the run's items.
pub record IsReady (r : RecorderState) : Type 0 where
  pub legal : IsConfiguration r.vault.config
  pub room : HasRoom r.vault.config r.maker
  pub makes : r.is_open ≡ true → (start : RunStart) × (popped : List Captured) × MakesBy r.vault.config start popped r.maker

-- How the first run of an opening begins.
abbrev pub start_of_opening : Opening → RunStart
start_of_opening opening =
    record { limits = opening.settings.limits; channels = opening.settings.channels; place = opening.next_place; last = opening.last }

abbrev pub acts_of : List Event → List Act
acts_of events = map (λ e. e.act) events

-- The vault tells what the events before a pending one leave.
pub record TellsLeft (opening : Opening) (events : List Event) (vault : VaultState) : Type 0 where
  pub place : vault.next_place ≡ (state_left opening events).place
  pub stamp : vault.last ≡ option_map of_stamp (state_left opening events).last
  pub table : vault.table ≡ incidents opening (done events)

module _ {tells tells_images : Type 0} where
  -- The vault stands after these events, and each medium has what a recorder's batches make of it.
  pub record IsStanding (opening : Opening) (events : List Event) (vault : VaultState) (disk : Disk tells tells_images) : Type 0 where
    pub placed : ℕ → List Placed
    pub first : ℕ → List Placed  -- as the media were opened
    pub stands : Stands opening events vault placed disk
    pub media : All (λ m. IsMediumOf (sizes_of vault.config) (start_of_opening opening) (segments_in (first m)) (acts_of events) (segments_in (placed m))) (members_on vault.rings)

  -- So it does, and the maker has counted the run that is open.
  pub record IsWorking (opening : Opening) (events : List Event) (r : RecorderState) (disk : Disk tells tells_images) : Type 0 where
    pub standing : IsStanding opening events r.vault disk
    pub open_is : r.is_open ≡ (state_left opening events).is_open
    pub makes : r.is_open ≡ true → MakesBy r.vault.config (state_left opening events).start (state_left opening events).popped r.maker

  -- The events are a recorder's history, none of which came before t0, and the media keep it since then. The vault of this state tells of it, and where no write has failed
  -- the state works on it.
  pub record HasHistory {S : Type 0} (vault_of : S → VaultState) (s : S) (opening : Opening) (events : List Event) (t0 : ℕ) (disk : Disk tells tells_images) (works_on : S → Type 0) : Type 0 where
    pub history : IsHistory opening events
    pub made : IsRecorderHistory opening events
    pub failed : (vault_of s).failed ≡ has_failed events
    pub told : TellsLeft opening events (vault_of s)
    pub rises : RiseFrom t0 disk.clock events
    pub kept : Keeps (ShowsHistory opening) events t0 disk
    pub works : (vault_of s).failed ≡ false → works_on s

  -- A recorder has recorded these events.
  abbrev pub HasRecorded : Opening → List Event → ℕ → RecorderState → Disk tells tells_images → Type 0
  HasRecorded opening events t0 r disk = HasHistory (λ (r : RecorderState). r.vault) r opening events t0 disk (λ (r : RecorderState). IsWorking opening events r disk)

  -- What the vault and its media have of them.
  abbrev pub HasKept : Opening → List Event → ℕ → VaultState → Disk tells tells_images → Type 0
  HasKept opening events t0 vault disk = HasHistory (λ (vault : VaultState). vault) vault opening events t0 disk (λ (vault : VaultState). IsStanding opening events vault disk)

  -- At every moment a stop leaves what it might have left before, or what shows the first of these events.
  abbrev pub Passes : Opening → List Event → Disk tells tells_images → Disk tells tells_images → Type 0
  Passes opening events old new = AtEachMoment old new (λ image. old.now image ⊎ ShowsPrefix (ShowsHistory opening) events 0 image)

  -- A call was one event: this act, at the clock of its return, or pending where the vault of this state met a fault. This holds of the events
  -- with it.
  pub record IsOneEvent {S : Type 0} (vault_of : S → VaultState) (s : S) (opening : Opening) (events : List Event) (act : Act) (old new : Disk tells tells_images) (has_with : List Event → S → Type 0) : Type 0 where
    pub event : Event
    pub act_is : event.act ≡ act
    pub moment_is : event.moment ≡ moment_of (vault_of s).failed new.clock
    pub has : has_with (events ++ event ∷ []) s
    pub passes : Passes opening (events ++ event ∷ []) old new

  -- A recorder has recorded it.
  abbrev pub HasDone : Opening → List Event → ℕ → Act → RecorderState → Disk tells tells_images → Disk tells tells_images → Type 0
  HasDone opening events t0 act r old new = IsOneEvent (λ (r : RecorderState). r.vault) r opening events act old new (λ (events : List Event) (r : RecorderState). HasRecorded opening events t0 r new)

  -- The vault and its media have it.
  abbrev pub KeepsEvent : Opening → List Event → ℕ → Act → VaultState → Disk tells tells_images → Disk tells tells_images → Type 0
  KeepsEvent opening events t0 act vault old new = IsOneEvent (λ (vault : VaultState). vault) vault opening events act old new (λ (events : List Event) (vault : VaultState). HasKept opening events t0 vault new)

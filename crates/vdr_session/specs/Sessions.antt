-- What a session of recording leaves, at each moment and in the end: one history, in which each datagram that a port gave, that found room in its
-- queue and that the rate admits is once, in its port's order, and each other one is counted in a Gap; and media that keep this history
-- (this project's profile; IEC 61996-1 and IMO MSC.333(90) for the windows that the media keep).
use Rattle.std.specs.Prelude.{◌≡◌, ◌≢◌, ◌≤◌, ◌<◌, ◌^◌, ◌++◌, ◌⊎◌, ◌&&◌, ℕ, Bool, true, false, List, [], length, get_or, sum, option_map, Option, Some, None, is_some, ⊤}
use Rattle.vdr_terms.specs.declared.counts.Counts.{Counts}
use Rattle.vdr_terms.specs.declared.rate.Rate.{Rate}
use Rattle.vdr_terms.specs.Records.{Item, Record}
use Rattle.vdr_core.specs.Accounts.{Accounts, AccountsPrefix}
use Rattle.vdr_core.specs.FullCounts.{FullCounts}
use Rattle.vdr_core.specs.Histories.{Event, IsHistory, Opening, recorded}
use Rattle.vdr_core.specs.Recorder.{closed_run, recorder_after}
use Rattle.vdr_core.specs.RunStates.{IsRecorderHistory}
use Rattle.vdr_core.specs.Runs.{RunStart, base_after, base_of}
use Rattle.vdr_core.specs.Taken.{AllFeed, Captured}
use Rattle.vdr_durability.specs.Keeping.{IsWhole, Keeps, RiseFrom}
use Rattle.vdr_intake.specs.Ends.{QueueId, Taking, full_of}
use Rattle.vdr_outside.specs.Causes.{NoneFalls, Rose}
use Rattle.vdr_outside.specs.Disk.{Disk}
use Rattle.vdr_outside.specs.declared.port.Port.{Ghosts as PortTells}
use Rattle.vdr_vault.specs.Vaults.{ShowsHistory, VaultState}
use Rattle.vdr_capture.specs.declared.lane.Cause.TheVariants.{Failed}
use Rattle.vdr_capture.specs.declared.lane.Lane.{Lane}
use Rattle.vdr_capture.specs.declared.sums.GroupSums.{GroupSums}
use Rattle.vdr_capture.specs.declared.sums.Outcome.{Outcome}
use Rattle.vdr_capture.specs.declared.sums.Outcome.TheVariants.{Done, NoMemory, Place, Tick, MediaFault, PortFault, LinkFault}
use Rattle.vdr_capture.specs.Sums.{sums_of}
use Rattle.vdr_run.specs.Starts.{stamp_of}
use Rattle.vdr_recorder.specs.Recordings.{HasRecorded, Passes, RecorderState, start_of_opening}
use Rattle.vdr_recorder.specs.Refusals.{MayBegin}
use Rattle.vdr_session.specs.declared.session.SessionEnd.{SessionEnd}
use Rattle.vdr_session.specs.Ran.{PortRan, PortRests}
use Rattle.vdr_session.specs.Standing.{StartMeans}
use Rattle.vdr_session.specs.declared.records.Began.TheVariants as starts

-- How far the run came, by what was told

-- The run was closed.
abbrev pub is_closed : Outcome → Bool
is_closed Done = true
is_closed NoMemory = false
is_closed Place = false
is_closed Tick = false
is_closed MediaFault = false
is_closed (PortFault g) = true
is_closed (LinkFault i) = true

-- What is told means so much for the opening.
abbrev pub OutcomeMeans : Opening → Outcome → Type 0
OutcomeMeans opening Done = MayBegin opening
OutcomeMeans opening NoMemory = ⊤
OutcomeMeans opening Place = StartMeans opening starts.Place
OutcomeMeans opening Tick = StartMeans opening starts.Tick
OutcomeMeans opening MediaFault = ⊤
OutcomeMeans opening (PortFault g) = MayBegin opening
OutcomeMeans opening (LinkFault i) = MayBegin opening

-- By this next place and this base a run is refused, or begins.
abbrev pub DecidedBy : (place base : ℕ) → Outcome → Type 0
DecidedBy place base Done = (place < 2 ^ 62) × (base < 2 ^ 62)
DecidedBy place base NoMemory = ⊤
DecidedBy place base Place = 2 ^ 62 ≤ place
DecidedBy place base Tick = (place < 2 ^ 62) × (2 ^ 62 ≤ base)
DecidedBy place base MediaFault = ⊤
DecidedBy place base (PortFault g) = (place < 2 ^ 62) × (base < 2 ^ 62)
DecidedBy place base (LinkFault i) = (place < 2 ^ 62) × (base < 2 ^ 62)

-- So it is by what the vault tells, whatever is known of the media.
abbrev pub DecidesSession : VaultState → Outcome → Type 0
DecidesSession vault outcome = DecidedBy vault.next_place (base_after (option_map stamp_of vault.last)) outcome

-- The run is refused by what the vault tells.
abbrev pub IsRefusedBy : VaultState → Outcome → Type 0
IsRefusedBy vault Done = ⊥
IsRefusedBy vault NoMemory = ⊥
IsRefusedBy vault Place = DecidesSession vault Place
IsRefusedBy vault Tick = DecidesSession vault Tick
IsRefusedBy vault MediaFault = ⊥
IsRefusedBy vault (PortFault g) = ⊥
IsRefusedBy vault (LinkFault i) = ⊥

-- The run was not begun, and not for a fault of the media.
abbrev pub IsUnbegun : Outcome → Type 0
IsUnbegun Done = ⊥
IsUnbegun NoMemory = ⊤
IsUnbegun Place = ⊤
IsUnbegun Tick = ⊤
IsUnbegun MediaFault = ⊥
IsUnbegun (PortFault g) = ⊥
IsUnbegun (LinkFault i) = ⊥

-- What was recorded, of the items that were taken from the queues, those that were lost as the media failed, and what each port missed at the
-- end: nothing; or the whole run with its close; or, where the media failed, so much of it.
abbrev pub RecordsAre : Outcome → RunStart → (items lost : List Captured) → (ℕ → Counts) → List Record → Type 0
RecordsAre Done start items lost rest records = (lost ≡ []) × (records ≡ closed_run start items rest)
RecordsAre NoMemory start items lost rest records = records ≡ []
RecordsAre Place start items lost rest records = records ≡ []
RecordsAre Tick start items lost rest records = records ≡ []
RecordsAre MediaFault start items lost rest records = (records ≡ []) ⊎ ((records ≡ (recorder_after start items).made) ⊎ ((lost ≡ []) × (records ≡ closed_run start items rest)))
RecordsAre (PortFault g) start items lost rest records = (lost ≡ []) × (records ≡ closed_run start items rest)
RecordsAre (LinkFault i) start items lost rest records = (lost ≡ []) × (records ≡ closed_run start items rest)

-- A group's records account for what its port gave.
abbrev pub AccountBy : Outcome → RunStart → List Record → ℕ → List Item → Type 0
AccountBy Done start records g given = Accounts (start.limits g) (base_of start) records g given
AccountBy NoMemory start records g given = ⊤
AccountBy Place start records g given = ⊤
AccountBy Tick start records g given = ⊤
AccountBy MediaFault start records g given = AccountsPrefix (start.limits g) (base_of start) records g given
AccountBy (PortFault k) start records g given = Accounts (start.limits g) (base_of start) records g given
AccountBy (LinkFault i) start records g given = Accounts (start.limits g) (base_of start) records g given

-- The lane of this group failed, and none below it: the least failure is told.
pub record IsLeastFailed {P : Type 0} (g : ℕ) (lanes : List (Lane P)) : Type 0 where
  pub within : g < 16
  pub fails : (d : Lane P) → (get_or lanes g d).cause ≡ Some Failed
  pub least : (k : ℕ) (d : Lane P) → k < g → (get_or lanes k d).cause ≢ Some Failed

-- Which port failure is told. A fault of the media comes before one of a port.
abbrev pub PortsTold : {P : Type 0} → Outcome → List (Lane P) → Type 0
PortsTold {P} Done lanes = (g : ℕ) (d : Lane P) → g < 16 → (get_or lanes g d).cause ≢ Some Failed
PortsTold {P} NoMemory lanes = ⊤
PortsTold {P} Place lanes = ⊤
PortsTold {P} Tick lanes = ⊤
PortsTold {P} MediaFault lanes = ⊤
PortsTold {P} (PortFault g) lanes = IsLeastFailed g lanes
PortsTold {P} (LinkFault i) lanes = ⊥

-- The ports

-- The port of a group in the session: it ran where the run was begun and the group is configured. Its queue has the configured room.
abbrev pub LaneTold : {P : Type 0} → PortTells P → (turns capacity : ℕ) → (began : Bool) → ℕ → Option Rate → Option (QueueId × Taking) → P → Lane P → List Item → Counts → Type 0
LaneTold tells turns capacity began g None None port lane given rest = PortRests port lane.port given rest × (lane.cause ≡ None)
LaneTold tells turns capacity began g None (Some intake) port lane given rest = ⊥
LaneTold tells turns capacity began g (Some rate) None port lane given rest = ⊥
LaneTold tells turns capacity true g (Some rate) (Some intake) port lane given rest =
    (intake.0.group ≡ g) × (intake.0.capacity ≡ capacity) × PortRan tells turns g intake.0 intake.1 port lane.port lane.tally lane.cause given rest
LaneTold tells turns capacity false g (Some rate) (Some intake) port lane given rest = (intake.0.group ≡ g) × (intake.0.capacity ≡ capacity) × PortRests port lane.port given rest

-- The sums

-- The sums of each configured group, by its number.
abbrev pub AreSums : List (Option Rate) → (ℕ → List Item) → List Record → List (Option GroupSums) → Type 0
AreSums rates given run sums = (g : ℕ) → g < 16 → is_some (get_or rates g None) ≡ true → get_or sums g None ≡ Some (sums_of g (given g) run)

-- The full counts of a group are the full steps of its feeder, which its taker keeps.
abbrev pub CountsFull : ℕ → (ℕ → List Item) → (ℕ → Counts) → List Record → List (Option (QueueId × Taking)) → Type 0
CountsFull capacity given rest run intakes = (g : ℕ) (intake : QueueId × Taking) → g < 16 → get_or intakes g None ≡ Some intake
    → FullCounts capacity (full_of intake.1.joined) g intake.1.popped (rest g) (given g) run

-- The session

module _ {tells tells_images : Type 0} where
  -- The history of the session, and the media that keep it.
  pub record KeepsSession (opening : Opening) (t0 : ℕ) (outcome : Outcome) (before after : Disk tells tells_images) (events : List Event) : Type 0 where
    pub history : IsHistory opening events
    pub made : IsRecorderHistory opening events
    pub kept : Keeps (ShowsHistory opening) events t0 after
    pub rises : RiseFrom t0 after.clock events
    pub passes : Passes opening events before after
    pub pending : IsWhole events ⊎ (outcome ≡ MediaFault)
    pub means : OutcomeMeans opening outcome
    -- what the media read as after a run that was closed shows all of it
    pub reads : is_closed outcome ≡ true → tells → ShowsHistory opening events after.reads

-- What its records say of what the ports gave.
pub record RecordsSession (start : RunStart) (rates : List (Option Rate)) (capacity : ℕ) (given : ℕ → List Item) (rest : ℕ → Counts) (items lost : List Captured) (end : SessionEnd) (records : List Record) : Type 0 where
  pub are : RecordsAre end.outcome start items lost rest records
  pub accounts : (g : ℕ) → AccountBy end.outcome start records g (given g)
  pub sums : is_closed end.outcome ≡ true → AreSums rates given records end.groups
  pub total : is_closed end.outcome ≡ true → end.records ≡ length records
  pub full : is_closed end.outcome ≡ true → CountsFull capacity given rest records end.intakes

-- A session over these lanes, with a recorder over these media, in whose history this holds of what was replied.
pub record SessionWith {P : Type 0} (port_tells : PortTells P) {tells tells_images : Type 0} (turns capacity : ℕ) (rates : List (Option Rate)) (old new : List (Lane P))
    (recorder : RecorderState) (before after : Disk tells tells_images) (end : SessionEnd) (replied : Opening → List Event → Type 0) : Type 0 where
  pub began : Bool
  pub given : ℕ → List Item
  pub rest : ℕ → Counts
  pub items : List Captured
  pub lost : List Captured
  pub feed : AllFeed (items ++ lost) rest given
  pub lanes : end.outcome ≢ NoMemory → (g : ℕ) (d : Lane P) → g < 16
      → LaneTold port_tells turns capacity began g (get_or rates g None) (get_or end.intakes g None) (get_or old g d).port (get_or new g d) (given g) (rest g)
  pub runs : is_closed end.outcome ≡ true → began ≡ true
  pub told : tells → (opening : Opening) (t0 : ℕ) → HasRecorded opening [] t0 recorder before
      → (events : List Event) × KeepsSession opening t0 end.outcome before after events × RecordsSession (start_of_opening opening) rates capacity given rest items lost end (recorded events) × replied opening events

-- A session without desks.
abbrev pub Session : {P : Type 0} (port_tells : PortTells P) {tells tells_images : Type 0} (turns capacity : ℕ) (rates : List (Option Rate)) (old new : List (Lane P))
    (recorder : RecorderState) (before after : Disk tells tells_images) (end : SessionEnd) → Type 0
Session port_tells turns capacity rates old new recorder before after end = SessionWith port_tells turns capacity rates old new recorder before after end (λ opening events. ⊤)

-- There are sums and queues of the configured groups, unless there was no memory for them.
abbrev pub has_groups : Outcome → Bool
has_groups Done = true
has_groups NoMemory = false
has_groups Place = true
has_groups Tick = true
has_groups MediaFault = true
has_groups (PortFault g) = true
has_groups (LinkFault i) = true

pub record HasGroups (rates : List (Option Rate)) (end : SessionEnd) : Type 0 where
  pub sums : (g : ℕ) → g < 16 → is_some (get_or end.groups g None) ≡ (has_groups end.outcome && is_some (get_or rates g None))
  pub intakes : (g : ℕ) → g < 16 → is_some (get_or end.intakes g None) ≡ (has_groups end.outcome && is_some (get_or rates g None))

-- No count of faults falls, and a fault of the media is told only where the count of one of them rose, and so their sum.
pub record HasSessionCause (before now : List ℕ) (outcome : Outcome) : Type 0 where
  pub later : NoneFalls before now
  pub rose : outcome ≡ MediaFault → Rose (sum before) (sum now)

-- What commits add to a run: each continues the records before it, and is what a recorder makes in its state.
use Rattle.std.specs.Prelude.{ℕ, ◌+◌, ◌≡◌, Bool, true, false, List, [], ◌++◌, length, flat_map, cond, Option}
use Rattle.std.specs.List.{AllByRecursion}
use Rattle.vdr_terms.specs.declared.counts.Counts.{Counts}
use Rattle.vdr_terms.specs.Records.{Record, last}
use Rattle.vdr_terms.specs.Order.{NeverFalls}
use Rattle.vdr_core.specs.Runs.{RunStart, Stamp, last_tick}
use Rattle.vdr_core.specs.Taken.{Captured}
use Rattle.vdr_core.specs.Recorder.{next_in, tick_of, recorder_after, closing}
use Rattle.vdr_core.specs.Histories.{Act, Continues, records_of_act, stamp_of}
use Rattle.vdr_core.specs.Shapes.{AreInside}
use Rattle.vdr_core.specs.RunStates.{RunState, between_runs, state_along, AreMadeFrom}
use Rattle.vdr_core.specs.Machine.{Plan, State, Step, start_at, start_of, committed}
use Rattle.vdr_core.specs.Machine.Step.{Save, Release, Look, Take, Drop, Push, Full, Pop, Commit, CloseRun, PowerFails, Restart}

-- The records come next in a run in which these items were popped: their places run on, they have their bits, and no tick
-- is earlier than that of the item popped last.
pub record ComeNext (start : RunStart) (before : List Captured) (new : List Record) : Type 0 where
  pub places : Continues start.channels (next_in start (recorder_after start before).made) new
  pub ticks : NeverFalls (tick_of start (recorder_after start before)) new

-- What further items make comes next: Datagrams, and Gaps before them.
abbrev pub FurtherItemsComeNext : RunStart → Type 0
FurtherItemsComeNext start = (before more : List Captured) (new : List Record) → (recorder_after start (before ++ more)).made ≡ (recorder_after start before).made ++ new
    → ComeNext start before new × AreInside new

abbrev pub ClosesComeNext : RunStart → Type 0
ClosesComeNext start = (before : List Captured) (rest : ℕ → Counts) → ComeNext start before (closing start (recorder_after start before) rest)

-- Over all commits of a recorder's history places run on with none skipped, each record has its bits, and ticks don't fall.
abbrev pub MadeHistoriesRunOn : RunStart → Type 0
MadeHistoriesRunOn start = (acts : List Act) → AreMadeFrom (between_runs start) acts
    → Continues start.channels start.place (flat_map records_of_act acts) × NeverFalls (last_tick start.last) (flat_map records_of_act acts)

-- What the machine has of the present run is what its history leaves.
pub record IsLeft (plan : Plan) (s : RunState) (w : State) : Type 0 where
  pub is_open : s.is_open ≡ w.running
  pub limits : s.start.limits ≡ plan.limits
  pub channels : s.start.channels ≡ plan.channels
  pub start : w.running ≡ true → s.start ≡ start_of plan w
  pub popped : w.running ≡ true → s.popped ≡ w.taken
  pub place : s.place ≡ w.place + length (cond w.running (committed plan w) [])
  pub stamp : s.last ≡ stamp_of (last (cond w.running (committed plan w) [])) w.last

abbrev pub is_power_failure : Step → Bool
is_power_failure PowerFails = true
is_power_failure (Take g item) = false
is_power_failure (Drop g) = false
is_power_failure (Push g) = false
is_power_failure (Full g) = false
is_power_failure (Pop g) = false
is_power_failure Commit = false
is_power_failure (Save id label a b) = false
is_power_failure (Release id) = false
is_power_failure Look = false
is_power_failure CloseRun = false
is_power_failure Restart = false

-- The power lasts.
abbrev pub PowerLasts : List Step → Type 0
PowerLasts steps = AllByRecursion (λ step. is_power_failure step ≡ false) steps

-- While the power lasts, the history since the opening is a recorder's, and the machine has what it leaves.
pub record IsRecorders (plan : Plan) (opening : ℕ) (stamp : Option Stamp) (w : State) : Type 0 where
  pub made : AreMadeFrom (between_runs (start_at plan opening stamp)) w.history
  pub left : IsLeft plan (state_along (between_runs (start_at plan opening stamp)) w.history) w

-- What the machine keeps: each item of each port has its place.
use Rattle.std.specs.Prelude.{ℕ, ◌+◌, ◌≤◌, ◌≡◌, Bool, true, false, List, [], ◌++◌, length, flat_map, cond, All, option_to_list}
use Rattle.vdr_terms.specs.declared.counts.Counts.{Counts}
use Rattle.vdr_terms.specs.Records.{Record, Item, records_of}
use Rattle.vdr_terms.specs.declared.rate.Rate.{Rate}
use Rattle.vdr_terms.specs.Rates.{Limit}
use Rattle.vdr_terms.specs.Rates.Limit.{AtMost}
use Rattle.vdr_core.specs.Accounts.{AreMissed, AllAccounted, Accounts, AccountsPrefix}
use Rattle.vdr_core.specs.Histories.{Continues, records_of_act}
use Rattle.vdr_core.specs.Taken.{Captured, AreCounted, AreQueued, AllFeed}
use Rattle.vdr_core.specs.Runs.{RunStart, TickOf, Ticks, base_of}
use Rattle.vdr_terms.specs.Order.{NeverFalls}
use Rattle.std.specs.List.{AllByRecursion}
use Rattle.vdr_terms.specs.Counting.{Pending}
use Rattle.vdr_core.specs.Recorder.{recorder_after, closed_run}
use Rattle.vdr_core.specs.Machine.{Plan, Lane, Ended, State, start_of, recorder, committed}

-- A group with a rate may have at least one datagram a second.
abbrev pub Admits : (ℕ → Limit) → Type 0
Admits limits = (g : ℕ) (rate : Rate) → limits g ≡ AtMost rate → 1 ≤ rate.datagrams

-- What the port gave is, in order: what the records account for, what is pending, what is queued, what the worker counted, and the worker's item.
pub record Conserved (limit : Limit) (base : ℕ) (g : ℕ) (records : List Record) (p : Pending) (l : Lane) : Type 0 where
  pub used : List Item
  pub pending : List Item
  pub queued : List Item
  pub counted : List Item
  pub order : l.given ≡ used ++ pending ++ queued ++ counted ++ option_to_list l.worker
  pub recorded : AllAccounted limit base [] (records_of g records) 0 used
  pub is_pending : AreMissed limit base (records_of g records) g p.missed pending
  pub is_queued : AreQueued g (length used + length pending) l.queue queued
  pub is_counted : AreCounted l.tally.missed counted

abbrev pub EachItemHasItsPlace : Plan → State → Type 0
EachItemHasItsPlace plan w = (g : ℕ) → Conserved (plan.limits g) (base_of (start_of plan w)) g (recorder plan w).made ((recorder plan w).pending g) (w.lanes g)

-- A closed run accounts for all that each port gave, one that was cut off for the first of it.
abbrev pub RunAccounts : Plan → Bool → Ended → Type 0
RunAccounts plan true run = (g : ℕ) → Accounts (plan.limits g) (base_of run.start) run.records g (run.given g)
RunAccounts plan false run = (g : ℕ) → AccountsPrefix (plan.limits g) (base_of run.start) run.records g (run.given g)

abbrev pub AllRunsAccount : Plan → State → Type 0
AllRunsAccount plan w = All (λ run. RunAccounts plan run.closed run) w.ended

abbrev pub ClosedRunsAccount : RunStart → Type 0
ClosedRunsAccount start = (items : List Captured) (rest : ℕ → Counts) (given : ℕ → List Item) → AllFeed items rest given
    → (g : ℕ) → Accounts (start.limits g) (base_of start) (closed_run start items rest) g (given g)

-- The same of a run that was cut off when some of the items were taken.
abbrev pub CutRunsAccount : RunStart → Type 0
CutRunsAccount start = (items more : List Captured) (rest : ℕ → Counts) (given : ℕ → List Item) → AllFeed (items ++ more) rest given
    → (g : ℕ) → AccountsPrefix (start.limits g) (base_of start) (recorder_after start items).made g (given g)

-- The records of a run have the next places and their bits, and the ticks of what was given.
pub record IsRun (start : RunStart) (given : ℕ → List Item) (run : List Record) : Type 0 where
  pub places : Continues start.channels start.place run
  pub ticks : Ticks (base_of start) given run

abbrev pub ClosedRunsAreRuns : RunStart → Type 0
ClosedRunsAreRuns start = (items : List Captured) (rest : ℕ → Counts) (given : ℕ → List Item) → AllFeed items rest given → IsRun start given (closed_run start items rest)

-- The same of a run that was cut off when some of the items were taken.
abbrev pub CutRunsAreRuns : RunStart → Type 0
CutRunsAreRuns start = (items more : List Captured) (rest : ℕ → Counts) (given : ℕ → List Item) → AllFeed (items ++ more) rest given → IsRun start given (recorder_after start items).made

-- The first records of a run, wherever it was cut off: their places, bits and ticks are the run's.
pub record IsFront (start : RunStart) (given : ℕ → List Item) (front : List Record) : Type 0 where
  pub places : Continues start.channels start.place front
  pub rising : NeverFalls (base_of start) front
  pub each : AllByRecursion (λ r. TickOf (base_of start) given r r.content) front

abbrev pub FrontsOfRuns : RunStart → Type 0
FrontsOfRuns start = (given : ℕ → List Item) (front back : List Record) → IsRun start given (front ++ back) → IsFront start given front

-- The history's records are those of the runs that have ended and of the present one, in order.
abbrev pub HistoryIsRuns : Plan → State → Type 0
HistoryIsRuns plan w = flat_map records_of_act w.history ≡ flat_map (λ run. run.records) w.ended ++ cond w.running (committed plan w) []

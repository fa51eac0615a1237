-- What a history leaves of its runs (this project's profile): whether a run is open, how it began, and the items that were
-- popped in it. The recorder's pending and rate counts, its meter, its tick and its utc are functions of these.
use Rattle.std.specs.Prelude.{ℕ, ◌+◌, ◌≡◌, ◌⊎◌, ⊤, Bool, true, false, List, [], ◌∷◌, ◌++◌, length, map, fold, if◌then◌else◌, nat_lt, Option, Some, None}
use Rattle.vdr_terms.specs.declared.counts.Counts.{Counts}
use Rattle.vdr_terms.specs.Records.{Content, Record, last}
use Rattle.vdr_terms.specs.Records.Content.{Start, Datagram, Gap, Stop}
use Rattle.vdr_core.specs.Runs.{Stamp, RunStart}
use Rattle.vdr_core.specs.Taken.{Captured}
use Rattle.vdr_core.specs.Recorder.{Recorder, begun, recorder_after, closing}
use Rattle.vdr_core.specs.Histories.{Act, Event, Opening, stamp_of, done}
use Rattle.vdr_core.specs.Histories.Act.{Commit, Save, Release, Look}

pub record RunState : Type 0 where
  pub is_open : Bool
  pub start : RunStart  -- of the run that is open, else of the last one
  pub popped : List Captured  -- in that run, and committed
  pub place : ℕ  -- of the next record
  pub last : Option Stamp  -- of the last record

abbrev pub is_start : Content → Bool
is_start Start = true
is_start (Datagram payload) = false
is_start (Gap missed) = false
is_start Stop = false

abbrev pub is_stop : Content → Bool
is_stop Stop = true
is_stop Start = false
is_stop (Datagram payload) = false
is_stop (Gap missed) = false

-- The records begin a run.
abbrev pub begin_run : List Record → Bool
begin_run [] = false
begin_run (r ∷ rs) = is_start r.content

abbrev pub ends_with_stop : Option Record → Bool
ends_with_stop None = false
ends_with_stop (Some r) = is_stop r.content

-- The records end a run.
abbrev pub end_run : List Record → Bool
end_run records = ends_with_stop (last records)

-- How a run begins now.
abbrev pub next_start : RunState → RunStart
next_start s = record s.start { place = s.place; last = s.last }

-- The state after a commit of these records, for which these items were popped.
abbrev pub after_commit : RunState → List Record → List Captured → RunState
after_commit s records taken = record {
  is_open = if end_run records then false else if begin_run records then true else s.is_open;
  start = if begin_run records then next_start s else s.start;
  popped = if begin_run records then taken else s.popped ++ taken;
  place = s.place + length records;
  last = stamp_of (last records) s.last;
}

abbrev pub after_act : RunState → Act → RunState
after_act s (Commit records taken) = after_commit s records taken
after_act s (Save id label a b) = s
after_act s (Release id) = s
after_act s Look = s

-- No run is open, and the next begins so.
abbrev pub between_runs : RunStart → RunState
between_runs start = record { is_open = false; start = start; popped = []; place = start.place; last = start.last }

-- What the media's opening leaves.
abbrev pub state_opened : Opening → RunState
state_opened opening =
    between_runs (record { limits = opening.settings.limits; channels = opening.settings.channels; place = opening.next_place; last = opening.last })

-- What the acts leave of a state.
abbrev pub state_along : RunState → List Act → RunState
state_along s acts = fold after_act s acts

-- What a history leaves: what the events before a pending one leave.
abbrev pub state_left : Opening → List Event → RunState
state_left opening events = state_along (state_opened opening) (map (λ e. e.act) (done events))

-- An event met a fault, and nothing is done any more.
abbrev pub has_failed : List Event → Bool
has_failed events = nat_lt (length (done events)) (length events)

-- The recorder in a state: all of it is a function of what was popped.
abbrev pub recorder_in : RunState → Recorder
recorder_in s = recorder_after s.start s.popped

-- A commit in an open run has exactly the records that its items make.
pub record GoesOnWith (s : RunState) (records : List Record) (taken : List Captured) : Type 0 where
  pub is_open : s.is_open ≡ true
  pub made : (recorder_after s.start (s.popped ++ taken)).made ≡ (recorder_in s).made ++ records

-- A commit that begins a run has its Start alone.
pub record BeginsWith (s : RunState) (records : List Record) (taken : List Captured) : Type 0 where
  pub is_closed : s.is_open ≡ false
  pub made : records ≡ (begun (next_start s)).made
  pub none : taken ≡ []

-- A commit that closes the run has the closing gaps, by some counts at the end, and Stop.
pub record ClosesWith (s : RunState) (records : List Record) (taken : List Captured) : Type 0 where
  pub is_open : s.is_open ≡ true
  pub rest : ℕ → Counts
  pub made : records ≡ closing s.start (recorder_in s) rest
  pub none : taken ≡ []

-- The act is one of a recorder in this state: a commit records what its items make.
abbrev pub IsMadeIn : RunState → Act → Type 0
IsMadeIn s (Commit records taken) = GoesOnWith s records taken ⊎ (BeginsWith s records taken ⊎ ClosesWith s records taken)
IsMadeIn s (Save id label a b) = ⊤
IsMadeIn s (Release id) = ⊤
IsMadeIn s Look = ⊤

-- Each act is made in the state that those before it leave.
abbrev pub AreMadeFrom : RunState → List Act → Type 0
AreMadeFrom s [] = ⊤
AreMadeFrom s (act ∷ acts) = IsMadeIn s act × AreMadeFrom (after_act s act) acts

-- The history is a recorder's: also its pending event is one.
abbrev pub IsRecorderHistory : Opening → List Event → Type 0
IsRecorderHistory opening events = AreMadeFrom (state_opened opening) (map (λ e. e.act) events)

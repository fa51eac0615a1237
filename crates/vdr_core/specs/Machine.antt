-- The recorder as a machine: ports, workers, queues, the recorder's hand, and the history.
use Rattle.std.specs.Prelude.{ℕ, zero, suc, ◌+◌, Bool, true, false, cond, ◌&&◌, List, [], ◌∷◌, ◌++◌, length, drop, ◌==◌, nat_lt, Option, Some, None, is_none}
use Rattle.vdr_terms.specs.declared.counts.Counts.{Counts}
use Rattle.vdr_terms.specs.Records.{Record, Item, last}
use Rattle.vdr_terms.specs.declared.datagram.Verdict.{Verdict}
use Rattle.vdr_terms.specs.Datagrams.{verdict}
use Rattle.vdr_terms.specs.declared.datagram.Verdict.TheVariants.{Yes, Bad, Large}
use Rattle.vdr_terms.specs.Rates.{Limit, is_configured}
use Rattle.vdr_terms.specs.Channels.{Channels}
use Rattle.vdr_core.specs.Runs.{Stamp, RunStart}
use Rattle.vdr_core.specs.Histories.{Act, stamp_of}
use Rattle.vdr_core.specs.Taken.{Captured}
use Rattle.vdr_terms.specs.Counting.{Tally, no_tally, tallied, pushed, one_full, one_bad, one_large}
use Rattle.vdr_core.specs.Recorder.{Recorder, begun, recorder_after, closing}

-- What stays: the rate of each configured group, the channels, and each queue's capacity.
pub record Plan : Type 0 where
  pub limits : ℕ → Limit
  pub channels : Channels
  pub capacity : ℕ

-- One port: what it gave in the run, the item that its worker has, what the worker counted, its queue, and how often its
-- feeder found the queue full.
pub record Lane : Type 0 where
  pub given : List Item
  pub worker : Option Item
  pub tally : Tally
  pub queue : List Captured
  pub full_steps : ℕ

abbrev pub idle : Lane
idle = record { given = []; worker = None; tally = no_tally; queue = []; full_steps = 0 }

-- A run that has ended: by its close, or cut off. It has what was popped in it, committed or not, and each group's full steps.
pub record Ended : Type 0 where
  pub start : RunStart
  pub records : List Record
  pub given : ℕ → List Item
  pub popped : List Captured
  pub full_steps : ℕ → ℕ
  pub closed : Bool

pub record State : Type 0 where
  pub running : Bool
  pub place : ℕ  -- of the run's first record; between runs of the next run's
  pub last : Option Stamp  -- of the last record before the run
  pub lanes : ℕ → Lane  -- by group
  pub taken : List Captured  -- popped and committed in the run
  pub hand : List Captured  -- popped and not yet committed
  pub ended : List Ended
  pub history : List Act

-- The media were opened: this is the next place, and this the stamp of the last record.
abbrev pub opened : ℕ → Option Stamp → State
opened place last = record { running = false; place = place; last = last; lanes = λ g. idle; taken = []; hand = []; ended = []; history = [] }

-- One step of one actor.
pub data Step : Type 0 where
  Take : (g : ℕ) (item : Item) → Step  -- the port of group g gives its worker this item
  Drop : (g : ℕ) → Step  -- the worker counts its bad or large item
  Push : (g : ℕ) → Step  -- the worker's item goes into the queue
  Full : (g : ℕ) → Step  -- the queue is full, and the worker counts its item
  Pop : (g : ℕ) → Step  -- the recorder takes the front of the queue into its hand
  Commit : Step  -- the hand is committed
  Save : (id : ℕ) (label : List ℕ) (a b : ℕ) → Step
  Release : (id : ℕ) → Step
  Look : Step
  CloseRun : Step  -- the run ends by its closing gaps and Stop
  PowerFails : Step  -- power fails. An event in progress either came before, or never
  Restart : Step  -- a new run begins

-- A run that begins at this place, after a record of this stamp.
abbrev pub start_at : Plan → ℕ → Option Stamp → RunStart
start_at plan place last = record { limits = plan.limits; channels = plan.channels; place = place; last = last }

abbrev pub start_of : Plan → State → RunStart
start_of plan w = start_at plan w.place w.last

-- What the recorder has: all that was popped counts, committed or not.
abbrev pub recorder : Plan → State → Recorder
recorder plan w = recorder_after (start_of plan w) (w.taken ++ w.hand)

-- The records of the run that are committed.
abbrev pub committed : Plan → State → List Record
committed plan w = (recorder_after (start_of plan w) w.taken).made

abbrev pub takes_from : Plan → ℕ → Bool
takes_from plan g = nat_lt g 16 && is_configured (plan.limits g)

-- The lanes, with this one for group g.
abbrev pub with_lane : (ℕ → Lane) → ℕ → Lane → ℕ → Lane
with_lane lanes g lane h = cond (h == g) lane (lanes h)

abbrev pub with_item : Item → Lane → Lane
with_item item l = record l { given = l.given ++ item ∷ []; worker = Some item }

-- The worker counts its item.
abbrev pub counted : (Counts → Counts) → Lane → Lane
counted one l = record l { worker = None; tally = tallied one l.tally }

-- The item as it stands in the queue: its number is that of the items counted or pushed before it.
abbrev pub captured : ℕ → Item → Tally → Captured
captured g item t = record { group = g; number = t.taken; received = item.received; utc = item.utc; missed = t.missed; bytes = item.bytes }

abbrev pub queued : ℕ → Item → Lane → Lane
queued g item l = record l { worker = None; tally = pushed l.tally; queue = l.queue ++ captured g item l.tally ∷ [] }

abbrev pub dropped : Verdict → Lane → Lane
dropped Yes l = l
dropped Bad l = counted one_bad l
dropped Large l = counted one_large l

abbrev pub drops : Option Item → Lane → Lane
drops None l = l
drops (Some item) l = dropped (verdict item.bytes) l

abbrev pub offered : ℕ → ℕ → Item → Verdict → Lane → Lane
offered capacity g item Yes l = cond (nat_lt (length l.queue) capacity) (queued g item l) l
offered capacity g item Bad l = l
offered capacity g item Large l = l

abbrev pub pushes : ℕ → ℕ → Option Item → Lane → Lane
pushes capacity g None l = l
pushes capacity g (Some item) l = offered capacity g item (verdict item.bytes) l

-- The queue is full: the feeder counts the step, and the worker its item.
abbrev pub was_full : Lane → Lane
was_full l = record l { worker = None; tally = tallied one_full l.tally; full_steps = suc l.full_steps }

abbrev pub turned_away : ℕ → Verdict → Lane → Lane
turned_away capacity Yes l = cond (nat_lt (length l.queue) capacity) l (was_full l)
turned_away capacity Bad l = l
turned_away capacity Large l = l

abbrev pub fulls : ℕ → Option Item → Lane → Lane
fulls capacity None l = l
fulls capacity (Some item) l = turned_away capacity (verdict item.bytes) l

abbrev pub with_queue : List Captured → Lane → Lane
with_queue queue l = record l { queue = queue }

abbrev pub popped : State → ℕ → Captured → List Captured → State
popped w g c rest = record w { lanes = with_lane w.lanes g (with_queue rest (w.lanes g)); hand = w.hand ++ c ∷ [] }

abbrev pub pops : State → ℕ → List Captured → State
pops w g [] = w
pops w g (c ∷ rest) = popped w g c rest

-- No worker below n has an item, and no queue has one.
abbrev pub all_quiet : ℕ → (ℕ → Lane) → Bool
all_quiet zero lanes = true
all_quiet (suc g) lanes = all_quiet g lanes && (is_none (lanes g).worker && length (lanes g).queue == 0)

-- What each port missed since its last push.
abbrev pub rest_of : State → ℕ → Counts
rest_of w g = (w.lanes g).tally.missed

-- The run as it ends with these records.
abbrev pub run_of : Plan → Bool → List Record → State → Ended
run_of plan closed records w = record {
  start = start_of plan w;
  records = records;
  given = λ g. (w.lanes g).given;
  popped = w.taken ++ w.hand;
  full_steps = λ g. (w.lanes g).full_steps;
  closed = closed;
}

-- The run is over, with these records; what it holds besides is gone.
abbrev pub ends : Plan → Bool → List Record → List Act → State → State
ends plan closed records acts w = record w {
  running = false;
  place = w.place + length records;
  last = stamp_of (last records) w.last;
  lanes = λ g. idle;
  taken = [];
  hand = [];
  ended = w.ended ++ run_of plan closed records w ∷ [];
  history = w.history ++ acts;
}

-- The run is closed: its last event commits the closing gaps and Stop.
abbrev pub closes : Plan → State → State
closes plan w =
    let last_records = closing (start_of plan w) (recorder plan w) (rest_of w) in
    ends plan true ((recorder plan w).made ++ last_records) (Act.Commit last_records [] ∷ []) w

abbrev pub puts : Plan → State → State
puts plan w = record w {
  taken = w.taken ++ w.hand;
  hand = [];
  history = w.history ++ Act.Commit (drop (length (committed plan w)) (recorder plan w).made) w.hand ∷ [];
}

abbrev pub restarts : Plan → State → State
restarts plan w = record w {
  running = true;
  lanes = λ g. idle;
  taken = [];
  hand = [];
  history = w.history ++ Act.Commit (begun (start_of plan w)).made [] ∷ [];
}

-- One more event, which has no records.
abbrev pub adds : Act → State → State
adds act w = record w { history = w.history ++ act ∷ [] }

-- A step whose condition does not hold changes nothing.
abbrev pub state_after : Plan → State → Step → State
state_after plan w (Take g item) =
    cond (w.running && takes_from plan g && is_none (w.lanes g).worker)
    (record w { lanes = with_lane w.lanes g (with_item item (w.lanes g)) })
    w
state_after plan w (Drop g) = record w { lanes = with_lane w.lanes g (drops (w.lanes g).worker (w.lanes g)) }
state_after plan w (Push g) = record w { lanes = with_lane w.lanes g (pushes plan.capacity g (w.lanes g).worker (w.lanes g)) }
state_after plan w (Full g) = record w { lanes = with_lane w.lanes g (fulls plan.capacity (w.lanes g).worker (w.lanes g)) }
state_after plan w (Pop g) = pops w g (w.lanes g).queue
state_after plan w Commit = cond w.running (puts plan w) w
state_after plan w (Save id label a b) = adds (Act.Save id label a b) w
state_after plan w (Release id) = adds (Act.Release id) w
state_after plan w Look = adds Act.Look w
state_after plan w CloseRun = cond (w.running && length w.hand == 0 && all_quiet 16 w.lanes) (closes plan w) w
state_after plan w PowerFails = cond w.running (ends plan false (committed plan w) [] w) w
state_after plan w Restart = cond w.running w (restarts plan w)

-- The world after a list of steps.
abbrev pub after : Plan → List Step → State → State
after plan [] w = w
after plan (step ∷ steps) w = after plan steps (state_after plan w step)

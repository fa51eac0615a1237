-- A lane before and after a session.
use Rattle.std.specs.Prelude.{◌≡◌, ◌≤◌, ◌++◌, ℕ, Bool, true, List, [], Option, Some, None, IfSome, is_some}
use Rattle.vdr_terms.specs.declared.counts.Counts.{Counts}
use Rattle.vdr_terms.specs.Counting.{Tally, no_tally}
use Rattle.vdr_terms.specs.Records.{Item, none_missed}
use Rattle.vdr_core.specs.Taken.{Captured}
use Rattle.vdr_intake.specs.Ends.{QueueId, Taking, Feeding}
use Rattle.vdr_outside.specs.Causes.{Rose}
use Rattle.vdr_outside.specs.declared.port.Port.{Ghosts as PortTells}
use Rattle.vdr_capture.specs.declared.lane.Lane.{Lane}
use Rattle.vdr_capture.specs.declared.lane.Cause.{Cause}
use Rattle.vdr_capture.specs.declared.lane.Cause.TheVariants.{Ended, Failed}
use Rattle.vdr_capture.specs.Captures.{IsCapture}
use Rattle.vdr_capture.specs.Gives.{NothingLeft}
use Rattle.vdr_capture.specs.Lanes.{Captures, telling_of}

-- The lane is of group g. Where the group is configured it holds the feeder of a new queue, whose taker is there too; else it holds none.
abbrev pub LaneIsReady : {P : Type 0} → (ℕ → Bool) → ℕ → Option QueueId → Option Taking → Lane P → Type 0
LaneIsReady configured g None None lane = (lane.group ≡ g) × (lane.feeder ≡ None)
LaneIsReady configured g None (Some taker) lane = ⊥
LaneIsReady configured g (Some queue) None lane = ⊥
LaneIsReady configured g (Some queue) (Some taker) lane =
    (lane.group ≡ g) × (queue.group ≡ g) × (configured g ≡ true) × (lane.tally ≡ no_tally)
    × (lane.feeder ≡ Some (record { queue = queue; pushed = []; full = 0 })) × (taker ≡ record { queue = queue; popped = []; joined = None })

-- The lane was captured, and its feeder was joined to the taker, which has popped a front of what was pushed.
pub record HasRan {P : Type 0} (tells : PortTells P) (turns g : ℕ) (queue : QueueId) (taker : Taking) (old new : Lane P) : Type 0 where
  pub captured : Lane P
  pub captures : Captures tells turns queue old captured
  pub feeder : Feeding
  pub held : captured.feeder ≡ Some feeder
  pub is : new ≡ record captured { feeder = None }
  pub of_queue : taker.queue ≡ queue
  pub joined : taker.joined ≡ Some feeder
  pub queued : List Captured
  pub order : feeder.pushed ≡ taker.popped ++ queued

-- A lane of a group that is not configured stays as it was.
abbrev pub LaneRan : {P : Type 0} → PortTells P → ℕ → ℕ → Option QueueId → Option Taking → Lane P → Lane P → Type 0
LaneRan tells turns g None taker old new = (new ≡ old) × (taker ≡ None)
LaneRan tells turns g (Some queue) None old new = ⊥
LaneRan tells turns g (Some queue) (Some taker) old new = HasRan tells turns g queue taker old new

-- The port was captured in at most so many takes: it gave these items, each of which was pushed or counted. The taker of its queue, to which the
-- feeder was joined, popped the first of what was pushed.
pub record PortRan {P : Type 0} (tells : PortTells P) (turns g : ℕ) (queue : QueueId) (taker : Taking) (old new : P) (tally : Tally) (told : Option Cause) (given : List Item) (rest : Counts) : Type 0 where
  pub feeder : Feeding
  pub cause : Cause
  pub told_is : told ≡ Some cause
  pub captured : IsCapture turns g (telling_of tells old) (telling_of tells new) feeder tally cause
  pub given_is : captured.given ≡ given
  pub rest_is : tally.missed ≡ rest
  pub of_queue : (feeder.queue ≡ queue) × (taker.queue ≡ queue)
  pub joined : taker.joined ≡ Some feeder
  pub queued : List Captured
  pub order : feeder.pushed ≡ taker.popped ++ queued
  pub faults : tells.faults old ≤ tells.faults new
  pub fails : cause ≡ Failed → Rose (tells.faults old) (tells.faults new)
  pub ends : cause ≡ Ended → NothingLeft (tells.standing old).left (tells.standing new).left

-- The port was asked for nothing.
pub record PortRests {P : Type 0} (old new : P) (given : List Item) (rest : Counts) : Type 0 where
  pub same : new ≡ old
  pub none : given ≡ []
  pub none_missed : rest ≡ none_missed

-- The lane was set anew: where the group is configured it holds the feeder of a new queue of this capacity, whose taker is there too.
pub record IsSetUp {P : Type 0} (configured : Bool) (g capacity : ℕ) (queue : Option QueueId) (taker : Option Taking) (old new : Lane P) : Type 0 where
  pub ready : LaneIsReady (λ _. configured) g queue taker new
  pub port : new.port ≡ old.port
  pub cause : new.cause ≡ None
  pub room : IfSome queue (λ q. q.capacity ≡ capacity)
  pub known : is_some queue ≡ configured

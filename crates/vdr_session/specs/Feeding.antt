-- What the port of a group gave in a session, and where it is.
use Rattle.std.specs.Prelude.{◌≡◌, ◌≤◌, ◌<◌, ◌++◌, ℕ, List, [], All, get_or, Option, Some, None}
use Rattle.vdr_terms.specs.declared.counts.Counts.{Counts}
use Rattle.vdr_terms.specs.Records.{Item, none_missed}
use Rattle.vdr_core.specs.Taken.{Captured, Feeds}
use Rattle.vdr_intake.specs.Ends.{QueueId, Taking}
use Rattle.vdr_outside.specs.declared.port.Port.{Ghosts as PortTells}
use Rattle.vdr_capture.specs.declared.lane.Lane.{Lane}
use Rattle.vdr_session.specs.Lanes.{IsDrained, popped_by}
use Rattle.vdr_session.specs.Ran.{PortRan}

-- The lane has a queue, and its port was captured; or it has none, and stayed as it was.
abbrev pub LaneGave : {P : Type 0} → PortTells P → (turns g : ℕ) → Option QueueId → Option Taking → Lane P → Lane P → List Item → Counts → Type 0
LaneGave tells turns g None taker old new given rest = (new ≡ old) × (given ≡ []) × (rest ≡ none_missed)
LaneGave tells turns g (Some queue) None old new given rest = ⊥
LaneGave tells turns g (Some queue) (Some taker) old new given rest = PortRan tells turns g queue taker old.port new.port new.tally new.cause given rest

-- What the lane missed since its last push, where it has a queue.
abbrev pub RestIs : {P : Type 0} → Option QueueId → Lane P → Counts → Type 0
RestIs None lane rest = rest ≡ none_missed
RestIs (Some queue) lane rest = rest ≡ lane.tally.missed

-- What each lane missed at the end.
pub record AreMissed {P : Type 0} (queues : List (Option QueueId)) (lanes : List (Lane P)) (rest : ℕ → Counts) : Type 0 where
  pub each : (g : ℕ) (d : Lane P) → g < 16 → RestIs (get_or queues g None) (get_or lanes g d) (rest g)
  pub beyond : (g : ℕ) → 16 ≤ g → rest g ≡ none_missed

-- The port gave these items: those that were popped, those still queued, and what was counted. A group from 16 on gave nothing.
pub record LaneFed {P : Type 0} (tells : PortTells P) (turns g : ℕ) (queue : Option QueueId) (taker : Option Taking) (old new : Lane P) (rest : Counts) : Type 0 where
  pub given : List Item
  pub lane : g < 16 → LaneGave tells turns g queue taker old new given rest
  pub queued : List Captured
  pub feeds : Feeds g (popped_by taker ++ queued) rest given
  pub own : All (λ c. c.group ≡ g) queued
  pub beyond : 16 ≤ g → (given ≡ []) × (queued ≡ [])
  pub drained : IsDrained taker → queued ≡ []

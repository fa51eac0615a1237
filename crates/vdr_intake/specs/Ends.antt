-- What contracts see of a queue and of its two ends.
use Rattle.std.specs.Prelude.{◌≡◌, ◌≤◌, ◌<◌, ◌+◌, ℕ, List, length, Option, Some, None}
use Rattle.atomic_table.specs.Seated.{TableId}
use Rattle.vdr_core.specs.Taken.{Captured}

-- A queue: which one, its group and its capacity.
pub record QueueId : Type 0 where
  pub table : TableId
  pub group : ℕ
  pub capacity : ℕ

-- There are sixteen groups, and a queue has room for 1 to 65,536 items.
pub record HasLimits (group capacity : ℕ) : Type 0 where
  pub sixteen : group < 16
  pub some : 0 < capacity
  pub most : capacity ≤ 65536

-- The producer's end: the items that it pushed, and how many of its pushes found the queue full.
pub record Feeding : Type 0 where
  pub queue : QueueId
  pub pushed : List Captured
  pub full : ℕ

-- A push found the queue full: nothing was pushed, one full step more is counted, and at least as many items as the capacity were pushed before.
pub record FindsFull (queue : QueueId) (old new : Feeding) : Type 0 where
  -- nothing was pushed
  pub pushed : new.pushed ≡ old.pushed
  -- one full step more is counted
  pub full : new.full ≡ old.full + 1
  -- so many were pushed before as it has room for
  pub at_capacity : queue.capacity ≤ length old.pushed

-- The consumer's end: the items that it popped, and the producer's end, once that was joined to it.
pub record Taking : Type 0 where
  pub queue : QueueId
  pub popped : List Captured
  pub joined : Option Feeding

-- How many of the pushes of a feeder that was joined found the queue full.
abbrev pub full_of : Option Feeding → ℕ
full_of None = 0
full_of (Some feeder) = feeder.full

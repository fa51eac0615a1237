-- Media in memory.
use Rattle.std.specs.Prelude.{◌≡◌, ◌≤◌, ◌⊎◌, ℕ, ◌-◌, List, length, Option, None, Some, Contains, ⊤}
use Rattle.vdr_outside.specs.Causes.{counted}
use Rattle.vdr_outside.specs.Disk.{Disk}
use Rattle.vdr_memory.specs.declared.call.Work.{Work}
use Rattle.vdr_memory.specs.declared.counts.CallCounts.{CallCounts}
use Rattle.vdr_memory.specs.Counts.{changes, one_change, one_read, total}
use Rattle.vdr_memory.specs.Disks.{disk_at}
use Rattle.vdr_memory.specs.Steps.{Step}
use Rattle.vdr_memory.specs.Traces.{Grows, HasNoRoom, Stays, TraceInMemory, size}

pub record MediaInMemory : Type 0 where
  pub trace : TraceInMemory  -- what they held at first, and the writes and syncs since then
  pub made : CallCounts  -- the calls that were made
  pub failing : List ℕ  -- the calls that are to fail, by their numbers from 0
  pub stop : Option ℕ  -- the power is gone once so many writes and syncs were made
  pub bytes_read : List ℕ  -- how many bytes were read of each medium
  pub faults : List ℕ  -- how often a call on each medium failed

abbrev pub disk_of : MediaInMemory → Disk ⊤ ⊤
disk_of s = disk_at s.trace.start s.trace.steps (changes s.made - length s.trace.steps)

abbrev pub IsReached : Option ℕ → ℕ → Type 0
IsReached None n = ⊥
IsReached (Some k) n = k ≤ n

-- The power is gone: each call fails, and leaves no trace on the media.
abbrev pub IsOff : MediaInMemory → Type 0
IsOff s = IsReached s.stop (changes s.made)

-- The next call is to fail.
abbrev pub IsFailing : MediaInMemory → Type 0
IsFailing s = Contains s.failing (total s.made) ⊎ IsOff s

-- After a read of n bytes of medium m, and after one that failed.
abbrev pub after_read : ℕ → ℕ → MediaInMemory → MediaInMemory
after_read m n s = record s { made = one_read s.made; bytes_read = counted s.bytes_read m n }

abbrev pub with_fault : ℕ → MediaInMemory → MediaInMemory
with_fault m s = record s { faults = counted s.faults m 1 }

-- A write or a sync was counted.
abbrev pub with_change : Work → MediaInMemory → MediaInMemory
with_change work s = record s { made = one_change work s.made }

-- Until the power is gone each write and sync is on the record.
pub record IsInStep (s : MediaInMemory) : Type 0 where
  pub within : length s.trace.steps ≤ changes s.made
  pub whole : (IsOff s → ⊥) → length s.trace.steps ≡ changes s.made

-- A write or a sync went onto the record. `next` says what else it left.
pub record Records (old next new : MediaInMemory) (step : Step) : Type 0 where
  pub is_on : IsOff old → ⊥
  pub grows : Grows old.trace new.trace step
  pub rest : new ≡ record next { trace = new.trace }

-- The record had no room for it, so the power goes with this call.
pub record CutsOff (old next new : MediaInMemory) (step : Step) : Type 0 where
  pub is_on : IsOff old → ⊥
  pub no_room : HasNoRoom old.trace (size step)
  pub stays : Stays old.trace new.trace
  pub rest : new ≡ record next { trace = new.trace; stop = Some (changes old.made) }

-- The power was gone.
pub record FindsOff (old next new : MediaInMemory) : Type 0 where
  pub is_off : IsOff old
  pub rest : new ≡ next

-- What a write or a sync leaves that fails.
abbrev pub FailsToChange : MediaInMemory → MediaInMemory → MediaInMemory → Step → Type 0
FailsToChange old next new step = Records old next new step ⊎ CutsOff old next new step ⊎ FindsOff old next new

-- The record of writes and syncs.
use Rattle.std.specs.Prelude.{◌≡◌, ◌≤◌, ◌<◌, ◌⊎◌, ℕ, ◌+◌, ◌^◌, Bool, List, [], ◌∷◌, length, take, drop}
use Rattle.vdr_outside.specs.Disk.{Image}
use Rattle.vdr_memory.specs.declared.call.Call.{Call}
use Rattle.vdr_memory.specs.declared.call.Work.{Work}
use Rattle.vdr_memory.specs.declared.call.Work.TheVariants.{Write, Sync}
use Rattle.vdr_memory.specs.Steps.{Step}
use Rattle.vdr_memory.specs.Steps.Step.{write, sync}

-- How many bytes are written.
abbrev pub length_of : Work → ℕ
length_of (Write at n) = n
length_of Sync = 0

-- The step of a call of which these are the bytes, and maybe those of later calls behind them.
abbrev pub step_of : ℕ → Work → List ℕ → Bool → Step
step_of m (Write at n) bytes done = write m at (take n bytes) done
step_of m Sync bytes done = sync m done

-- The steps of calls, the oldest first, of which these are the bytes one after another.
abbrev pub steps_of : List Call → List ℕ → List Step
steps_of [] bytes = []
steps_of (call ∷ calls) bytes = step_of call.medium call.work bytes call.done ∷ steps_of calls (drop (length_of call.work) bytes)

-- The call of a step.
abbrev pub call_of : Step → Call
call_of (write m at bytes done) = record { medium = m; work = Write at (length bytes); done = done }
call_of (sync m done) = record { medium = m; work = Sync; done = done }

-- How many bytes of a step the record keeps.
abbrev pub size : Step → ℕ
size (write m at bytes done) = length bytes
size (sync m done) = 0

pub record TraceInMemory : Type 0 where
  pub start : Image  -- the contents at first, all of them synced
  pub steps : List Step  -- the writes and syncs on the record, the newest first
  pub spare_calls : ℕ  -- how many more calls the record takes without more memory
  pub spare_bytes : ℕ  -- and how many more bytes of theirs

-- The record may have to ask for memory before it takes so many bytes of one more call.
abbrev pub HasNoRoom : TraceInMemory → ℕ → Type 0
HasNoRoom trace n = (trace.spare_calls < 1) ⊎ (trace.spare_bytes < n)

-- A step went onto the record, and took no more room than its own.
pub record Grows (old new : TraceInMemory) (step : Step) : Type 0 where
  pub start : new.start ≡ old.start
  pub steps : new.steps ≡ step ∷ old.steps
  pub few : length new.steps < 2 ^ 64
  pub calls : old.spare_calls ≤ new.spare_calls + 1
  pub bytes : old.spare_bytes ≤ new.spare_bytes + size step

-- The record is as before, and no room was lost.
pub record Stays (old new : TraceInMemory) : Type 0 where
  pub start : new.start ≡ old.start
  pub steps : new.steps ≡ old.steps
  pub calls : old.spare_calls ≤ new.spare_calls
  pub bytes : old.spare_bytes ≤ new.spare_bytes

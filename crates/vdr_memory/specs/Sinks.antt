-- A sink in memory.
use Rattle.std.specs.Prelude.{◌≡◌, ℕ, List, ◌++◌}
use Rattle.vdr_outside.specs.Calls.{one_more}

pub record SinkInMemory : Type 0 where
  pub taken : List ℕ  -- the bytes taken
  pub spare : ℕ  -- how many more it can take without more memory
  pub failing : List ℕ  -- the calls that fail, by their numbers from 0
  pub calls : ℕ  -- how many were made
  pub faults : ℕ  -- how many of them failed

-- A call took these bytes.
pub record Takes (old new : SinkInMemory) (bytes : List ℕ) : Type 0 where
  pub taken : new.taken ≡ old.taken ++ bytes
  pub failing : new.failing ≡ old.failing
  pub calls : new.calls ≡ one_more old.calls
  pub faults : new.faults ≡ old.faults

-- A call failed and took nothing.
pub record TakesNothing (old new : SinkInMemory) : Type 0 where
  pub taken : new.taken ≡ old.taken
  pub failing : new.failing ≡ old.failing
  pub calls : new.calls ≡ one_more old.calls
  pub faults : new.faults ≡ one_more old.faults

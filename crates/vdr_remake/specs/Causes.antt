-- When a call over two media may answer a fault.
use Rattle.std.specs.Prelude.{ℕ, List, get_or, Any}
use Rattle.vdr_outside.specs.Causes.{NoneFalls, Rose}

-- The count of no medium falls, and the call failed by a fault only where that of one of these rose.
pub record RoseAmong (members : List ℕ) (before now : List ℕ) (faulted : Type 0) : Type 0 where
  pub later : NoneFalls before now
  pub rose : faulted → Any (λ m. Rose (get_or before m 0) (get_or now m 0)) members

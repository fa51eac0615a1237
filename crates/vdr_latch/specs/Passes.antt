-- What contracts see of a pass, and what a pass knows of the history of its latch.
use Rattle.std.specs.Prelude.{◌≡◌, ℕ, Bool, true, List}
use Rattle.std.specs.List.{filter}
use mathlib.Core.List.{IsPrefix, Sublist}
use Rattle.atomic_table.specs.Seated.{TableId}

-- which latch it is, seen as the table of words under it
abbrev pub LatchId : Type 0
LatchId = TableId

-- Its latch, how many parts of the latch it has, whether it is the one pass that leads, the beginning of the history that it has seen,
-- and the events of its own turns in their order.
pub record Passing (E : Type 0) : Type 0 where
  pub latch : LatchId
  pub parts : ℕ
  pub leads : Bool
  pub seen : List E
  pub own : List E

module _ {E : Type 0} (leading : E → Bool) where
  -- The history begins with all that was seen. One's own events stand in it, once each and in their order. Who leads has made all leading
  -- events of the history.
  pub record Knows (leads : Bool) (seen own history : List E) : Type 0 where
    pub begins : IsPrefix seen history
    pub stands : Sublist own history
    pub led : leads ≡ true → filter leading history ≡ filter leading own

  -- for all that the pass knows, this may be the history
  abbrev pub IsPossible : Passing E → List E → Type 0
  IsPossible p = Knows p.leads p.seen p.own

-- Items that stand in memory of their own.
use Rattle.std.specs.Prelude.{ℕ, List}
use Rattle.vdr_core.specs.Taken.{Captured}

-- The items, and how many there is room for.
pub record Buffered : Type 0 where
  pub items : List Captured
  pub capacity : ℕ

-- Records that stand in memory of their own.
use Rattle.std.specs.Prelude.{ℕ, List}
use Rattle.vdr_terms.specs.Records.{Record}

-- The records, and how many there is room for.
pub record Buffered : Type 0 where
  pub items : List Record
  pub capacity : ℕ

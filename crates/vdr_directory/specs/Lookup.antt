-- What a ring is asked of its segments.
use Rattle.std.specs.Prelude.{◌≤◌, ℕ, List, Any, Contains, Option}
use Rattle.vdr_index.specs.Indexes.{IsAbove}
use Rattle.vdr_directory.specs.Sequence.{Placed, seq_of}
use Rattle.vdr_directory.specs.Order.{HasPlace}

-- The segment of least sequence number above this one.
pub record IsNext (after : Option ℕ) (placed : List Placed) (p : Placed) : Type 0 where
  pub there : Contains placed p
  pub above : IsAbove after (seq_of p)
  pub least : (q : Placed) → Contains placed q → IsAbove after (seq_of q) → seq_of p ≤ seq_of q

-- All places from a to b stand in these segments.
abbrev pub HoldAll : (a b : ℕ) → List Placed → Type 0
HoldAll a b placed = (place : ℕ) → a ≤ place → place ≤ b → Any (HasPlace place) placed

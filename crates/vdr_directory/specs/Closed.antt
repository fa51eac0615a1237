-- Which slots are closed.
use Rattle.std.specs.Prelude.{◌≡◌, ◌≢◌, ◌<◌, ℕ, List, length, Any, All}
use Rattle.vdr_directory.specs.Sequence.{Placed}

-- There are as many open segments as slots.
abbrev pub IsFull : ℕ → List Placed → Type 0
IsFull count placed = length placed ≡ count

pub record IsLeastClosed (count : ℕ) (placed : List Placed) (slot : ℕ) : Type 0 where
  pub within : slot < count
  pub closed : All (λ p. p.slot ≢ slot) placed
  pub least : (j : ℕ) → j < slot → Any (λ p. p.slot ≡ j) placed

-- What is read of one medium.
use Rattle.std.specs.Prelude.{◌≡◌, ◌≤◌, ◌+◌, ℕ, List, get_or, Result, OnOk}

-- No byte of another medium than m was read.
abbrev pub ReadsNoOther : ℕ → (before now : List ℕ) → Type 0
ReadsNoOther m before now = (k : ℕ) → (k ≡ m → ⊥) → get_or now k 0 ≡ get_or before k 0

-- Whatever is answered, no more of medium m was read than the reader had in its budget, and after Ok it has in it what is left.
pub record Spends {T E : Type 0} (m had has : ℕ) (before now : List ℕ) (result : Result T E) : Type 0 where
  pub within : get_or now m 0 ≤ get_or before m 0 + had
  pub left : OnOk result (get_or now m 0 + has ≤ get_or before m 0 + had)

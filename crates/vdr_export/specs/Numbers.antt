-- Numbers that have to be one throughout.
use Rattle.std.specs.Prelude.{ℕ, ◌==◌, if◌then◌else◌, List, [], ◌∷◌, Option, Some, None}

-- A number, and the place of its record.
pub record Numbered : Type 0 where
  pub place : ℕ
  pub number : ℕ

-- The place of the first that is another number.
abbrev pub first_other : ℕ → List Numbered → Option ℕ
first_other n [] = None
first_other n (x ∷ xs) = if x.number == n then first_other n xs else Some x.place

-- The place of the first that is not the number of the first one.
abbrev pub mixed_at : List Numbered → Option ℕ
mixed_at [] = None
mixed_at (x ∷ xs) = first_other x.number xs

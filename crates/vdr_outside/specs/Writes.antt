-- What stands in a sink after a text was written to it. Where the sink does not tell what it took, nothing is said.
use Rattle.std.specs.Prelude.{◌≡◌, ℕ, List, ◌++◌, Option, None, Some, take, length, ⊤}
use Rattle.std.specs.Io.KnownBytes.{Appends}

-- The known bytes grew by a front of the text.
abbrev pub AppendsFront : Option (List ℕ) → Option (List ℕ) → List ℕ → Type 0
AppendsFront old new text = (front rest : List ℕ) × (text ≡ front ++ rest) × Appends old new front

-- The bytes that are known now, as many as were known at the start.
abbrev pub first_known : Option (List ℕ) → Option (List ℕ) → Option (List ℕ)
first_known None now = None
first_known (Some start) None = None
first_known (Some start) (Some now) = Some (take (length start) now)

-- The known bytes begin with those of the start.
abbrev pub BeginsWith : Option (List ℕ) → Option (List ℕ) → Type 0
BeginsWith start now = first_known start now ≡ start

-- The bytes that a sink took are a front of all that are known.
abbrev pub IsFrontOf : Option (List ℕ) → Option (List ℕ) → Type 0
IsFrontOf took None = ⊤
IsFrontOf None (Some all) = ⊥
IsFrontOf (Some took) (Some all) = (rest : List ℕ) × (all ≡ took ++ rest)

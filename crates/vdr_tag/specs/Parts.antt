-- Bytes that are cut at a byte.
use Rattle.std.specs.Prelude.{ℕ, ◌==◌, List}
use Rattle.std.specs.List.{slice_split}

-- The parts of the bytes, between the places where this byte stands.
abbrev pub parts : (at : ℕ) → List ℕ → List (List ℕ)
parts at bytes = slice_split (λ b. b == at) bytes

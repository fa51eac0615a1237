-- How far an input was read as its source failed.
use Rattle.std.specs.Prelude.{◌<◌, ℕ, List, length, Option}
use Rattle.std.specs.Io.KnownBytes.{Consumes}

-- Fewer than so many of the bytes left were read.
abbrev pub ReadsFewer : ℕ → (left now : Option (List ℕ)) → Type 0
ReadsFewer n left now = (part : List ℕ) × (length part < n) × Consumes left now part

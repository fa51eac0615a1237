-- The words of a text (this project's profile).
use Rattle.std.specs.Prelude.{◌==◌, ℕ, List}
use Rattle.std.specs.List.{slice_split}

-- What stands between its spaces. Two spaces that stand together have an empty word between them.
abbrev pub words : List ℕ → List (List ℕ)
words text = slice_split (λ b. b == 32) text

-- The fields of a sentence: its content, cut at the commas. The address stands before the first.
use Rattle.std.specs.Prelude.{ℕ, ◌==◌, List, Option, None, count_by, slice_get, if◌then◌else◌}
use Rattle.std.specs.List.{slice_split}

abbrev pub fields : List ℕ → List (List ℕ)
fields content = slice_split (λ b. b == 44) content

abbrev pub field_count : List ℕ → ℕ
field_count content = count_by (λ b. b == 44) content

-- Fields are counted from 1.
abbrev pub field : ℕ → List ℕ → Option (List ℕ)
field n content = if n == 0 then None else slice_get (fields content) n

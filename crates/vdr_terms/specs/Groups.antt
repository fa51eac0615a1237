-- The transmission groups of the ship's network (names after IEC 61162-450; the numbers are this project's profile).
use Rattle.std.specs.Prelude.{ℕ, List, [], ◌∷◌, Option, Some, None, bytes_eq, codes, ◌==◌, if◌then◌else◌}

-- The names, each with its number.
abbrev pub group_table : List (List ℕ × ℕ)
group_table =
    (codes "MISC", 0) ∷ (codes "TGTD", 1) ∷ (codes "SATD", 2) ∷ (codes "NAVD", 3) ∷ (codes "VDRD", 4) ∷ (codes "RCOM", 5) ∷ (codes "TIME", 6) ∷ (codes "PROP", 7)
    ∷ (codes "USR1", 8) ∷ (codes "USR2", 9) ∷ (codes "USR3", 10) ∷ (codes "USR4", 11) ∷ (codes "USR5", 12) ∷ (codes "USR6", 13) ∷ (codes "USR7", 14) ∷ (codes "USR8", 15) ∷ []

-- The first number beside the text.
abbrev pub beside : List ℕ → List (List ℕ × ℕ) → Option ℕ
beside name [] = None
beside name (row ∷ rows) = if bytes_eq name row.0 then Some row.1 else beside name rows

-- The first text beside the number, else none.
abbrev pub named : ℕ → List (List ℕ × ℕ) → List ℕ
named g [] = []
named g (row ∷ rows) = if g == row.1 then row.0 else named g rows

-- The number of the group of this name.
abbrev pub group_numbered : List ℕ → Option ℕ
group_numbered name = beside name group_table

-- The name of the group of this number.
abbrev pub group_name : ℕ → List ℕ
group_name g = named g group_table

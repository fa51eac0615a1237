-- Parts of a table's text, as they are printed.
use Rattle.std.specs.Prelude.{ℕ, List, [], ◌∷◌, ◌++◌, Option, Some, None}
use Rattle.vdr_rows.specs.Values.{Said}
use Rattle.vdr_rows.specs.Texts.{Heading, number_text, quoted, row_text, valid_text}

-- The fields before the source, each with its comma.
abbrev pub front_text : Heading → List ℕ
front_text h = h.utc ++ 44 ∷ (h.place ++ 44 ∷ (h.group ++ 44 ∷ []))

-- The fields between the source and the text, with the commas around them.
abbrev pub middle_text : Heading → Said → List ℕ
middle_text h s = 44 ∷ (h.sentence ++ 44 ∷ (s.item ++ 44 ∷ (s.name ++ 44 ∷ (number_text s.number ++ 44 ∷ (s.measure ++ 44 ∷ (valid_text s.valid ++ 44 ∷ []))))))

-- A row behind its source.
abbrev pub rest_text : Heading → Said → List ℕ
rest_text h s = middle_text h s ++ (quoted s.words ++ 10 ∷ [])

-- The row of a value that is there.
abbrev pub given_text : Heading → Option Said → List ℕ
given_text h None = []
given_text h (Some s) = row_text h s

-- What is printed as lines of base64, where it comes in parts.
use Rattle.std.specs.Prelude.{ℕ, List, ◌++◌}
use Rattle.vdr_terms.specs.Records.{Record}
use Rattle.vdr_visit.specs.Prints.{text_of}
use Rattle.vdr_base64.specs.Lines.{left_over, lines_of, whole_lines}

-- What waits behind these records.
abbrev pub waits : (line : List Record → Record → List ℕ) → (seen : List Record) → List ℕ
waits line seen = left_over (text_of line seen)

-- The lines that a further record makes whole.
abbrev pub line_at : (line : List Record → Record → List ℕ) → (seen : List Record) → Record → List ℕ
line_at line seen r = whole_lines (waits line seen ++ line seen r)

-- Those of all that is left behind the last record.
abbrev pub last_lines : (line : List Record → Record → List ℕ) → (last : List Record → List ℕ) → (seen : List Record) → List ℕ
last_lines line last seen = lines_of (waits line seen ++ last seen)

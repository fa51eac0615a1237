-- The rows of a page that tell readings and names, as records come (this project's profile).
use Rattle.std.specs.Prelude.{ℕ, List, [], ◌∷◌, ◌++◌, codes, fold}
use Rattle.vdr_thin.specs.Runs.{Reading}
use Rattle.vdr_thin.specs.Tables.{Key, Row, ended_in, rows_behind}
use Rattle.vdr_page.specs.Fields.{row}
use Rattle.vdr_page.specs.Fields.Field.{Number, Text}
use Rattle.vdr_page.specs.Runs.{run_row_if}
use Rattle.vdr_page.specs.Tellings.{Said, Telling}
use Rattle.vdr_page.specs.Tellings.Telling.{Says, Names}

abbrev pub key_of : Said → Key
key_of s = record { kind = s.kind; text = s.key }

-- A reading of a record of this stamp, behind so many Gaps of its group.
abbrev pub reading_of : (utc gaps : ℕ) → Said → Reading
reading_of utc gaps s = record { utc = utc; gaps = gaps; valid = s.valid; measure = s.measure; second = s.second; text = s.text }

abbrev pub rows_with : (step utc gaps : ℕ) → List Row → Telling → List Row
rows_with step utc gaps rows (Says s) = rows_behind step rows (key_of s) (reading_of utc gaps s)
rows_with step utc gaps rows (Names formatter mmsi name) = rows

-- `["name",UTC,FORMATTER,MMSI,NAME]`
abbrev pub name_row : (utc : ℕ) → (formatter : List ℕ) → (mmsi : ℕ) → (name : List ℕ) → List ℕ
name_row utc formatter mmsi name = row (codes "name") (Number utc ∷ Text formatter ∷ Number mmsi ∷ Text name ∷ [])

-- The row of the run that a reading ends, and that of a name.
abbrev pub telling_text : (step utc gaps : ℕ) → List Row → Telling → List ℕ
telling_text step utc gaps rows (Says s) = run_row_if s.kind s.key (ended_in step rows (key_of s) (reading_of utc gaps s))
telling_text step utc gaps rows (Names formatter mmsi name) = name_row utc formatter mmsi name

-- One after the other.
abbrev pub tellings_text : (step utc gaps : ℕ) → List Row → List Telling → List ℕ
tellings_text step utc gaps rows [] = []
tellings_text step utc gaps rows (t ∷ ts) = telling_text step utc gaps rows t ++ tellings_text step utc gaps (rows_with step utc gaps rows t) ts

abbrev pub rows_after : (step utc gaps : ℕ) → List Row → List Telling → List Row
rows_after step utc gaps rows tellings = fold (rows_with step utc gaps) rows tellings

-- The live incidents as they are told (this project's profile; IMO MSC.333(90) asks that the record of an incident be kept).
use Rattle.std.specs.Prelude.{ℕ, zero, suc, List, [], ◌++◌, codes, decimal, Option, Some, None}
use Rattle.vdr_core.specs.Histories.{Incident, live}
use Rattle.vdr_entry.specs.Utc.{utc_text}

-- A live save: its id, tick and UTC of its last record, its first and its last place, and its label.
unfoldable pub incident_row : (id : ℕ) → Incident → List ℕ
incident_row id saved =
    decimal id
    ++ codes " "
    ++ decimal saved.stamp.tick
    ++ codes " "
    ++ utc_text saved.stamp.utc
    ++ codes " "
    ++ decimal saved.a
    ++ codes " "
    ++ decimal saved.b
    ++ codes " "
    ++ saved.label
    ++ codes "\n"

-- An id under which nothing is live has no row.
abbrev pub row_if : (id : ℕ) → Option Incident → List ℕ
row_if id None = []
row_if id (Some saved) = incident_row id saved

-- The rows of the first n ids, which begin at 1.
abbrev pub rows_to : (n : ℕ) → List (Option Incident) → List ℕ
rows_to zero table = []
rows_to (suc n) table = rows_to n table ++ row_if (suc n) (live table (suc n))

-- The live saves in the order of their ids, of which the last is 32.
unfoldable pub incidents_text : List (Option Incident) → List ℕ
incidents_text table = rows_to 32 table

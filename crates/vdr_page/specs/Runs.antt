-- The rows of a page that tell readings (this project's profile): each is a run of readings of a series, thinned to a few of them.
use Rattle.std.specs.Prelude.{ℕ, Bool, List, [], ◌∷◌, ◌++◌, codes, decimal, Option, Some, None, if◌then◌else◌}
use Rattle.std.specs.List.{flat_map}
use Rattle.vdr_thin.specs.Runs.{Point, Run, count_of, kept, marks_of}
use Rattle.vdr_thin.specs.Tables.{Row}
use Rattle.vdr_thin.specs.declared.kind.Kind.{Kind}
use Rattle.vdr_thin.specs.declared.kind.Kind.TheVariants.{Value, Position, Ship}
use Rattle.vdr_page.specs.Fields.{Field, flag, keyed_row}
use Rattle.vdr_page.specs.Fields.Field.{Made, Number, Text}

-- What the readings of a run say of themselves: nothing, that they are valid, or that they are not.
abbrev pub valid_text : Option Bool → List ℕ
valid_text None = []
valid_text (Some valid) = if valid then codes "1" else codes "0"

-- A reading in a list: its stamp, and its text.
abbrev pub point_text : Point → List ℕ
point_text p = decimal p.reading.utc ++ codes "," ++ p.reading.text

-- `[UTC,TEXT,UTC,TEXT]`
abbrev pub points_text : List Point → List ℕ
points_text [] = codes "[]"
points_text (p ∷ ps) = codes "[" ++ point_text p ++ flat_map (λ q. codes "," ++ point_text q) ps ++ codes "]"

abbrev pub kind_name : Kind → List ℕ
kind_name Value = codes "v"
kind_name Position = codes "p"
kind_name Ship = codes "ship"

-- Behind the key of a value and of a position: VALID, BEHIND, MARKS, N, and the list. Behind that of a ship: N, and the list.
abbrev pub run_fields : Kind → (points : List ℕ) → Run → List Field
run_fields Value points run = Text (valid_text run.first.reading.valid) ∷ flag run.behind ∷ Number (marks_of run) ∷ Number (count_of run) ∷ Made points ∷ []
run_fields Position points run = Text (valid_text run.first.reading.valid) ∷ flag run.behind ∷ Number (marks_of run) ∷ Number (count_of run) ∷ Made points ∷ []
run_fields Ship points run = Number (count_of run) ∷ Made points ∷ []

-- `["v",GROUP,SOURCE,SENTENCE,ITEM,NAME,UNIT,VALID,BEHIND,MARKS,N,[UTC,VALUE,..]]`, `["p",GROUP,SOURCE,SENTENCE,VALID,BEHIND,MARKS,N,[UTC,LAT,LON,..]]`, and
-- `["ship",GROUP,SOURCE,FORMATTER,MMSI,N,[UTC,LAT,LON,SPEED,COURSE,HEADING,..]]`: the key has what stands before VALID, or before N of a ship.
abbrev pub run_row : Kind → (key : List ℕ) → Run → List ℕ
run_row kind key run = keyed_row (kind_name kind) key (run_fields kind (points_text (kept run)) run)

abbrev pub run_row_if : Kind → (key : List ℕ) → Option Run → List ℕ
run_row_if kind key None = []
run_row_if kind key (Some run) = run_row kind key run

abbrev pub open_row : Row → List ℕ
open_row r = run_row r.key.kind r.key.text r.run

-- The runs of all series that go on: values first, then positions and ships, each in byte order.
abbrev pub open_rows : List Row → List ℕ
open_rows rows = flat_map open_row rows

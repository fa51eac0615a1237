-- What is kept of a source, and where its row stands.
use Rattle.std.specs.Prelude.{◌≡◌, ◌≤◌, ◌<◌, ℕ, ℤ, List, length, map, All, Some, slice_get}
use Rattle.std.specs.declared.cmp.Ordering.TheVariants.{Less, Equal, Greater}
use Rattle.vdr_terms.specs.Stamps.{IsStamp}
use Rattle.vdr_durability.specs.Sources.{Line, Reading, Row, Source, source_cmp, table_of}
use Rattle.vdr_sources.specs.declared.line.Told.{Told}

-- What a line says.
abbrev pub reading_told : Told → Reading
reading_told told = record { name = told.name.now; count = told.count; good = told.good }

-- A line of this group and stamp.
abbrev pub line_told : (group : ℕ) (utc : ℤ) → Reading → Line
line_told group utc reading = record { source = record { group = group; name = reading.name }; utc = utc; count = reading.count; good = reading.good }

abbrev pub lines_at : (group : ℕ) (utc : ℤ) → List Reading → List Line
lines_at group utc readings = map (λ r. line_told group utc r) readings

-- A row that can be printed, and whose sums are no more than its lines.
pub record IsKept (row : Row) : Type 0 where
  pub group : row.source.group ≤ 15
  pub first : IsStamp row.first
  pub last : IsStamp row.last
  pub bad : row.bad ≤ row.lines
  pub breaks : row.breaks ≤ row.lines

-- The rows are the table of some lines, and none has more lines than were counted.
pub record IsTable (counted : ℕ) (rows : List Row) : Type 0 where
  pub lines : List Line
  pub table : rows ≡ table_of lines
  pub few : All (λ r. r.lines ≤ counted) rows

-- The source comes behind the rows before i.
abbrev pub ComesBehind : Source → ℕ → List Row → Type 0
ComesBehind source i rows = (j : ℕ) (row : Row) → j < i → slice_get rows j ≡ Some row → source_cmp source row.source ≡ Greater

-- And before the row at i, if any.
abbrev pub ComesBefore : Source → ℕ → List Row → Type 0
ComesBefore source i rows = (row : Row) → slice_get rows i ≡ Some row → source_cmp source row.source ≡ Less

pub record IsAt (source : Source) (rows : List Row) (i : ℕ) : Type 0 where
  pub within : i < length rows
  pub behind : ComesBehind source i rows
  pub here : (row : Row) → slice_get rows i ≡ Some row → source_cmp source row.source ≡ Equal

pub record IsGap (source : Source) (rows : List Row) (i : ℕ) : Type 0 where
  pub within : i ≤ length rows
  pub behind : ComesBehind source i rows
  pub before : ComesBefore source i rows

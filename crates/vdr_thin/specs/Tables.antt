-- The table of series: the run of each that goes on (this project's profile).
use Rattle.std.specs.Prelude.{◌<◌, ℕ, List, find, Option, option_map}
use Rattle.std.specs.Cmp.Lexicographic.{slice_cmp}
use Rattle.std.specs.Ordering.{is_eq, nat_cmp, ordering_then}
use Rattle.std.specs.declared.cmp.Ordering.{Ordering}
use Rattle.vdr_alerts.specs.Rows.{AreOrdered, put}
use Rattle.vdr_thin.specs.declared.kind.Kind.{Kind}
use Rattle.vdr_thin.specs.declared.kind.Kind.TheVariants.{Value, Position, Ship}
use Rattle.vdr_thin.specs.Runs.{Reading, Run, ended_by, goes_on}

-- What tells series apart: what they are of, and how their rows begin.
pub record Key : Type 0 where
  pub kind : Kind
  pub text : List ℕ

pub record Row : Type 0 where
  pub key : Key
  pub run : Run

-- The table: its buckets have so many milliseconds.
pub record Table : Type 0 where
  pub step : ℕ
  pub rows : List Row

abbrev pub rank : Kind → ℕ
rank Value = 0
rank Position = 1
rank Ship = 2

-- The longest time within a run, in milliseconds.
abbrev pub longest : Kind → ℕ
longest Value = 10_000
longest Position = 10_000
longest Ship = 180_000

-- Values first, then positions and ships, each in byte order.
abbrev pub key_cmp : Key → Key → Ordering
key_cmp k l = ordering_then (nat_cmp (rank k.kind) (rank l.kind)) (slice_cmp nat_cmp k.text l.text)

abbrev pub row_cmp : Row → Row → Ordering
row_cmp a b = key_cmp a.key b.key

abbrev pub row_of : List Row → Key → Option Row
row_of rows key = find (λ row. is_eq (key_cmp row.key key)) rows

abbrev pub run_in : Option Row → Option Run
run_in row = option_map (λ row. row.run) row

-- The row of a series behind a reading of it.
abbrev pub row_behind : (step : ℕ) → List Row → Key → Reading → Row
row_behind step rows key r = record { key = key; run = goes_on step (longest key.kind) (run_in (row_of rows key)) r }

abbrev pub rows_behind : (step : ℕ) → List Row → Key → Reading → List Row
rows_behind step rows key r = put row_cmp rows (row_behind step rows key r)

-- The run that a reading ends, if it ends one.
abbrev pub ended_in : (step : ℕ) → List Row → Key → Reading → Option Run
ended_in step rows key r = ended_by step (longest key.kind) (run_in (row_of rows key)) r

abbrev pub with_reading : Table → Key → Reading → Table
with_reading table key r = record table { rows = rows_behind table.step table.rows key r }

-- A table has buckets, and its rows are in order.
pub record IsTable (table : Table) : Type 0 where
  pub step : 0 < table.step
  pub ordered : AreOrdered row_cmp table.rows

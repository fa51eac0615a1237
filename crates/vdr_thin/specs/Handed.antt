-- The runs that a table hands out: as readings come, and those that go on behind the last one.
use Rattle.std.specs.Prelude.{◌≡◌, ℕ, Bool, List, [], ◌∷◌, ◌++◌, filter, map, option_map, option_to_list}
use Rattle.std.specs.Ordering.{is_eq}
use Rattle.vdr_thin.specs.Runs.{Reading, Run, runs_of}
use Rattle.vdr_thin.specs.Tables.{Key, Row, ended_in, key_cmp, longest, rows_behind}

-- A reading of a series.
pub record Told : Type 0 where
  pub key : Key
  pub reading : Reading

abbrev pub row_with : Key → Run → Row
row_with key run = record { key = key; run = run }

-- Each run with its series, where these readings come to these rows.
abbrev pub handed_out : (step : ℕ) → List Row → List Told → List Row
handed_out step rows [] = rows
handed_out step rows (t ∷ told) = option_to_list (option_map (row_with t.key) (ended_in step rows t.key t.reading)) ++ handed_out step (rows_behind step rows t.key t.reading) told

abbrev pub is_of : Key → Key → Bool
is_of key k = is_eq (key_cmp k key)

abbrev pub readings_of : Key → List Told → List Reading
readings_of key told = map (λ t. t.reading) (filter (λ t. is_of key t.key) told)

abbrev pub runs_handed : Key → List Row → List Run
runs_handed key rows = map (λ row. row.run) (filter (λ row. is_of key row.key) rows)

-- Of each series a table hands out the runs of the series' own readings, in their order, whatever is told of others.
abbrev pub TableHandsOutRuns : Type 0
TableHandsOutRuns = (step : ℕ) (told : List Told) (key : Key) → runs_handed key (handed_out step [] told) ≡ runs_of step (longest key.kind) (readings_of key told)

-- What records tell of series, parted by Starts and Stops, and the runs that rows of a page tell (this project's profile).
use Rattle.std.specs.Prelude.{◌≡◌, ℕ, List, [], ◌∷◌, ◌++◌, length, sum_by, Option, Some, None, if◌then◌else◌}
use Rattle.std.specs.List.{filter_map, flat_map}
use Rattle.vdr_terms.specs.Records.{Record, has_items}
use Rattle.vdr_thin.specs.Handed as thin
use Rattle.vdr_thin.specs.Handed.{is_of, readings_of}
use Rattle.vdr_thin.specs.Runs.{Run, count_of, runs_of}
use Rattle.vdr_thin.specs.Tables.{Key, longest}
use Rattle.vdr_page.specs.Gaps.{stamp_of}
use Rattle.vdr_page.specs.Opens.{gaps_of, open_behind}
use Rattle.vdr_page.specs.Series.{key_of, reading_of}
use Rattle.vdr_page.specs.Shown.{Shown}
use Rattle.vdr_page.specs.Shown.Shown.{Missed, Told, Other}
use Rattle.vdr_page.specs.Tellings.{Telling, tellings_of}
use Rattle.vdr_page.specs.Tellings.Telling.{Says, Names}

-- The readings that a record tells.
abbrev pub told_by : (utc gaps : ℕ) → Telling → Option thin.Told
told_by utc gaps (Says s) = Some (record { key = key_of s; reading = reading_of utc gaps s })
told_by utc gaps (Names formatter mmsi name) = None

abbrev pub told_at : (step : ℕ) → (seen : List Record) → Record → List thin.Told
told_at step seen r = filter_map (told_by (stamp_of r) (gaps_of (open_behind step seen) r)) (tellings_of (open_behind step seen).back r)

-- Those up to each Start and Stop, and those behind the last one: those of the first part that were told already stand first.
abbrev pub parts_behind : (step : ℕ) → (seen : List Record) → (part : List thin.Told) → List Record → List (List thin.Told)
parts_behind step seen part [] = part ∷ []
parts_behind step seen part (r ∷ rs) =
    if has_items r.content then parts_behind step (seen ++ r ∷ []) (part ++ told_at step seen r) rs else part ∷ parts_behind step (seen ++ r ∷ []) [] rs

abbrev pub parts_of : (step : ℕ) → List Record → List (List thin.Told)
parts_of step records = parts_behind step [] [] records

-- The runs of a series that rows tell.
abbrev pub run_at : Key → Shown → Option Run
run_at key (Missed group marks) = None
run_at key (Told row) = if is_of key row.key then Some row.run else None
run_at key (Other text) = None

abbrev pub runs_in : Key → List Shown → List Run
runs_in key rows = filter_map (run_at key) rows

-- They are those of its readings, part by part, and count each reading once.
pub record TellRuns (key : Key) (step : ℕ) (rows : List Shown) (parts : List (List thin.Told)) : Type 0 where
  pub runs : runs_in key rows ≡ flat_map (λ (part : List thin.Told). runs_of step (longest key.kind) (readings_of key part)) parts
  pub counts : sum_by count_of (runs_in key rows) ≡ sum_by (λ (part : List thin.Told). length (readings_of key part)) parts

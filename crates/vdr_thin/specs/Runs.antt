-- Runs of readings: a page shows of each the first, the last and the extremes (this project's profile).
use Rattle.std.specs.Prelude.{ℕ, ◌+◌, ◌-◌, ◌/◌, ℤ, int_lt, Bool, true, not, ◌||◌, ◌==◌, nat_lt, List, [], ◌∷◌, fold, Option, None, Some, if◌then◌else◌}
use Rattle.std.specs.Bool.{beq}
use Rattle.std.specs.Option.{option_eq}
use Rattle.std.specs.Ordering.{nat_cmp}
use Rattle.std.specs.declared.cmp.Ordering.{Ordering}
use Rattle.vdr_alerts.specs.Rows.{put}
use Rattle.vdr_thin.specs.declared.reading.Axis.{Axis}
use Rattle.vdr_thin.specs.declared.reading.Axis.TheVariants.{First, Second}

-- A reading of a series: the stamp of its record, how many Gaps of its transmission group stand before it, whether its sentence says that it is valid, the
-- two measures that extremes are judged by, and its text.
pub record Reading : Type 0 where
  pub utc : ℕ
  pub gaps : ℕ
  pub valid : Option Bool
  pub measure : ℤ
  pub second : ℤ
  pub text : List ℕ

abbrev pub along : Axis → Reading → ℤ
along First r = r.measure
along Second r = r.second

-- A reading of a run, and which one it is, from 1.
pub record Point : Type 0 where
  pub number : ℕ
  pub reading : Reading

-- The first least and the first greatest reading along an axis.
pub record Extremes : Type 0 where
  pub least : Point
  pub greatest : Point

-- What is kept of a run: whether a Gap of the group stands between it and the series' reading before, or there is none before, and its points.
pub record Run : Type 0 where
  pub behind : Bool
  pub first : Point
  pub last : Point
  pub extremes : Extremes
  pub second : Extremes

-- Whether a reading ends the run that this one is the last of: in another bucket of so many milliseconds, with a stamp that falls or rises by more than the
-- longest silence, or of another validity.
abbrev pub ends : (step longest : ℕ) → (last r : Reading) → Bool
ends step longest last r =
    not (last.utc / step == r.utc / step) || nat_lt r.utc last.utc || nat_lt longest (r.utc - last.utc) || not (option_eq beq last.valid r.valid)

abbrev pub widened : Axis → Extremes → Point → Extremes
widened axis e p = record {
  least = if int_lt (along axis p.reading) (along axis e.least.reading) then p else e.least;
  greatest = if int_lt (along axis e.greatest.reading) (along axis p.reading) then p else e.greatest;
}

abbrev pub extremes_of : Point → Extremes
extremes_of p = record { least = p; greatest = p }

-- A run of one reading.
abbrev pub begun_at : (behind : Bool) → Point → Run
begun_at behind p = record { behind = behind; first = p; last = p; extremes = extremes_of p; second = extremes_of p }

abbrev pub begun : (behind : Bool) → Reading → Run
begun behind r = begun_at behind (record { number = 1; reading = r })

-- With one more reading.
abbrev pub with_point : Run → Point → Run
with_point run p = record run { last = p; extremes = widened First run.extremes p; second = widened Second run.second p }

abbrev pub grown : Run → Reading → Run
grown run r = with_point run (record { number = run.last.number + 1; reading = r })

-- Whether a Gap of the group stands between two readings.
abbrev pub is_missed : (last r : Reading) → Bool
is_missed last r = not (last.gaps == r.gaps)

-- How many readings a run has, and how many Gaps of the group stand between its first and its last one.
abbrev pub count_of : Run → ℕ
count_of run = run.last.number

abbrev pub marks_of : Run → ℕ
marks_of run = run.last.reading.gaps - run.first.reading.gaps

-- In their order in the run.
abbrev pub point_cmp : Point → Point → Ordering
point_cmp p q = nat_cmp p.number q.number

abbrev pub slots : Run → List Point
slots run = run.first ∷ run.extremes.least ∷ run.extremes.greatest ∷ run.second.least ∷ run.second.greatest ∷ run.last ∷ []

-- The points that are shown of a run: in their order, each once.
abbrev pub kept : Run → List Point
kept run = fold (put point_cmp) [] (slots run)

-- ---- the runs of a series

-- What goes on behind a reading: the run that it begins, where it ends the one before it, or else that one with it.
abbrev pub goes_on : (step longest : ℕ) → Option Run → Reading → Run
goes_on step longest None r = begun true r
goes_on step longest (Some run) r = if ends step longest run.last.reading r then begun (is_missed run.last.reading r) r else grown run r

-- The run that it ends, if it ends one.
abbrev pub ended_by : (step longest : ℕ) → Option Run → Reading → Option Run
ended_by step longest None r = None
ended_by step longest (Some run) r = if ends step longest run.last.reading r then Some run else None

-- The run that goes on and those that follow it, as readings come.
abbrev pub runs_from : (step longest : ℕ) → Run → List Reading → List Run
runs_from step longest run [] = run ∷ []
runs_from step longest run (r ∷ rs) = if ends step longest run.last.reading r then run ∷ runs_from step longest (begun (is_missed run.last.reading r) r) rs else runs_from step longest (grown run r) rs

-- The runs of the readings of a series, between a Start or Stop and the next one.
abbrev pub runs_of : (step longest : ℕ) → List Reading → List Run
runs_of step longest [] = []
runs_of step longest (r ∷ rs) = runs_from step longest (begun true r) rs

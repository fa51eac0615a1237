-- What holds of the runs of a series, in words of its readings.
use Rattle.std.specs.Prelude.{◌≡◌, ◌⊎◌, ◌≤◌, ◌<◌, ◌+◌, ◌-◌, ◌/◌, ℕ, int_le, Bool, true, ◌||◌, not, nat_lt, List, [], ◌∷◌, length, map, sum_by, slice_get, Option, None, Some, ⊤, if◌then◌else◌}
use Rattle.std.specs.Bool.{beq}
use Rattle.std.specs.List.{AllByRecursion, flat_map}
use Rattle.std.specs.Option.{option_eq}
use Rattle.vdr_alerts.specs.Rows.{AreOrdered}
use Rattle.vdr_thin.specs.declared.reading.Axis.{Axis}
use Rattle.vdr_thin.specs.Runs.{Point, Reading, Run, along, count_of, is_missed, kept, point_cmp, runs_of}

-- One of these is so.
abbrev pub Has : {A : Type 0} → (A → Type 0) → List A → Type 0
Has P [] = ⊥
Has P (x ∷ xs) = P x ⊎ Has P xs

abbrev pub last_of : List Reading → Option Reading
last_of [] = None
last_of (r ∷ []) = Some r
last_of (r ∷ q ∷ rs) = last_of (q ∷ rs)

-- The second follows the first within a run: in one bucket, with a stamp that does not fall and rises by no more than the longest silence, and of one validity.
pub record Follows (step longest : ℕ) (p q : Reading) : Type 0 where
  pub bucket : p.utc / step ≡ q.utc / step
  pub rises : p.utc ≤ q.utc
  pub soon : q.utc ≤ p.utc + longest
  pub valid : p.valid ≡ q.valid

-- Each follows the one before it.
abbrev pub AreJoined : (step longest : ℕ) → List Reading → Type 0
AreJoined step longest [] = ⊤
AreJoined step longest (p ∷ []) = ⊤
AreJoined step longest (p ∷ q ∷ rs) = Follows step longest p q × AreJoined step longest (q ∷ rs)

-- A run begins where the reading before it is not followed so.
abbrev pub IsApart : (step longest : ℕ) → (before : Option Reading) → Reading → Type 0
IsApart step longest None r = ⊤
IsApart step longest (Some before) r = Follows step longest before r → ⊥

abbrev pub is_behind : (before : Option Reading) → Reading → Bool
is_behind None r = true
is_behind (Some before) r = is_missed before r

-- The point is the reading of its number.
pub record IsPoint (part : List Reading) (p : Point) : Type 0 where
  pub place : ℕ
  pub number : p.number ≡ place + 1
  pub stands : slice_get part place ≡ Some p.reading

-- No point is above the reading, or below it.
abbrev pub IsUpTo : Axis → (r : Reading) → Point → Type 0
IsUpTo axis r p = int_le (along axis p.reading) (along axis r) ≡ true

abbrev pub IsFrom : Axis → (r : Reading) → Point → Type 0
IsFrom axis r p = int_le (along axis r) (along axis p.reading) ≡ true

-- A run of these readings, behind this one of another run: it has as many, of one validity, which follow each other, and begins where it has to. What is
-- shown of it are readings of it in their order, each once, the first and the last one among them, and of each axis one up to and one from each reading.
pub record IsRun (step longest : ℕ) (before : Option Reading) (part : List Reading) (run : Run) : Type 0 where
  pub joined : AreJoined step longest part
  pub apart : IsApart step longest before run.first.reading
  pub behind : run.behind ≡ is_behind before run.first.reading
  pub count : count_of run ≡ length part
  pub valid : AllByRecursion (λ r. run.first.reading.valid ≡ r.valid) part
  pub first : slice_get part 0 ≡ Some run.first.reading
  pub last : last_of part ≡ Some run.last.reading
  pub ordered : AreOrdered point_cmp (kept run)
  pub shown : AllByRecursion (IsPoint part) (kept run)
  pub shows_first : Has (λ p. p.reading ≡ run.first.reading) (kept run)
  pub shows_last : Has (λ p. p.reading ≡ run.last.reading) (kept run)
  pub least : (axis : Axis) → AllByRecursion (λ r. Has (IsUpTo axis r) (kept run)) part
  pub greatest : (axis : Axis) → AllByRecursion (λ r. Has (IsFrom axis r) (kept run)) part

abbrev pub AreRuns : (step longest : ℕ) → (before : Option Reading) → (parts : List (List Reading)) → List Run → Type 0
AreRuns step longest before [] [] = ⊤
AreRuns step longest before [] (run ∷ runs) = ⊥
AreRuns step longest before (part ∷ parts) [] = ⊥
AreRuns step longest before (part ∷ parts) (run ∷ runs) = IsRun step longest before part run × AreRuns step longest (Some run.last.reading) parts runs

-- These readings are those of these runs, one after the other.
pub record AreCut (step longest : ℕ) (before : Option Reading) (readings : List Reading) (runs : List Run) : Type 0 where
  pub parts : List (List Reading)
  pub whole : flat_map (λ (part : List Reading). part) parts ≡ readings
  pub are_runs : AreRuns step longest before parts runs

-- The readings of a series are cut into those of its runs.
abbrev pub ReadingsAreCut : Type 0
ReadingsAreCut = (step longest : ℕ) (readings : List Reading) → AreCut step longest None readings (runs_of step longest readings)

-- The runs have together as many readings as the series.
abbrev pub EachReadingCounts : Type 0
EachReadingCounts = (step longest : ℕ) (readings : List Reading) → sum_by count_of (runs_of step longest readings) ≡ length readings

-- What is shown of runs.
abbrev pub shown_of : List Run → List Reading
shown_of runs = flat_map (λ (run : Run). map (λ p. p.reading) (kept run)) runs

-- The point is of the reading's validity, and not above it, or not below it.
pub record IsBelow (axis : Axis) (r p : Reading) : Type 0 where
  pub valid : p.valid ≡ r.valid
  pub up_to : int_le (along axis p) (along axis r) ≡ true

pub record IsAbove (axis : Axis) (r p : Reading) : Type 0 where
  pub valid : p.valid ≡ r.valid
  pub up_to : int_le (along axis r) (along axis p) ≡ true

-- What is shown are readings of the series, and each reading has one of its validity that is not above it, and one that is not below it: so the least and
-- the greatest reading of each validity are shown.
pub record ShowsExtremes (readings shown : List Reading) : Type 0 where
  pub are_readings : AllByRecursion (λ p. Has (λ r. p ≡ r) readings) shown
  pub least : (axis : Axis) → AllByRecursion (λ r. Has (IsBelow axis r) shown) readings
  pub greatest : (axis : Axis) → AllByRecursion (λ r. Has (IsAbove axis r) shown) readings

abbrev pub EachExtremeIsShown : Type 0
EachExtremeIsShown = (step longest : ℕ) (readings : List Reading) → ShowsExtremes readings (shown_of (runs_of step longest readings))

-- ---- how many runs there are

-- Behind a stamp that does not fall.
abbrev pub NeverFalls : List Reading → Type 0
NeverFalls [] = ⊤
NeverFalls (p ∷ []) = ⊤
NeverFalls (p ∷ q ∷ rs) = (p.utc ≤ q.utc) × NeverFalls (q ∷ rs)

-- Silences and changes of validity.
abbrev pub is_broken : (longest : ℕ) → (p q : Reading) → Bool
is_broken longest p q = nat_lt longest (q.utc - p.utc) || not (option_eq beq p.valid q.valid)

abbrev pub breaks_in : (longest : ℕ) → List Reading → ℕ
breaks_in longest [] = 0
breaks_in longest (p ∷ []) = 0
breaks_in longest (p ∷ q ∷ rs) = (if is_broken longest p q then 1 else 0) + breaks_in longest (q ∷ rs)

abbrev pub bucket_of : (step : ℕ) → Option Reading → ℕ
bucket_of step None = 0
bucket_of step (Some r) = r.utc / step

-- Where no stamp falls there is at most one run for each bucket from the first to the last, and one for each silence and each change of validity.
abbrev pub RunsAreFew : Type 0
RunsAreFew = (step longest : ℕ) → 0 < step → (first : Reading) (readings : List Reading) → NeverFalls (first ∷ readings)
    → length (runs_of step longest (first ∷ readings)) + first.utc / step ≤ 1 + bucket_of step (last_of (first ∷ readings)) + breaks_in longest (first ∷ readings)

-- The summary of a run, group by group (this project's profile).
use Rattle.std.specs.Prelude.{◌≡◌, ◌<◌, ℕ, List, length, slice_index_or, Option, Some, None}
use Rattle.vdr_terms.specs.declared.rate.Rate.{Rate}
use Rattle.vdr_terms.specs.Records.{Record, Item}
use Rattle.vdr_capture.specs.declared.sums.GroupSums.{GroupSums}
use Rattle.vdr_capture.specs.Sums.{sums_of}

-- The sums of each configured group, by its number.
abbrev pub sums_if : Option Rate → GroupSums → Option GroupSums
sums_if None sums = None
sums_if (Some rate) sums = Some sums

pub record AreSums (rates : List (Option Rate)) (given : ℕ → List Item) (run : List Record) (sums : List (Option GroupSums)) : Type 0 where
  pub sixteen : length sums ≡ 16
  pub each : (g : ℕ) → g < 16 → slice_index_or sums g None ≡ sums_if (slice_index_or rates g None) (sums_of g (given g) run)

-- What foretells the bytes of the records of a run's next item.
use Rattle.std.specs.Prelude.{ℕ, ◌+◌, ◌≡◌, ◌≤◌, ◌<◌, ◌↔◌, true, false, List, [], ◌∷◌, ◌++◌, length, slice_index_or, Option, Some, None}
use Rattle.vdr_terms.specs.Rates.{Limit}
use Rattle.vdr_core.specs.Recorder.{recorder_after}
use Rattle.vdr_core.specs.Taken.{Captured}
use Rattle.vdr_run.specs.Meters.{IsMeterOf}
use Rattle.vdr_run.specs.Sizes.{IsDue, bytes_of, run_by}
use Rattle.vdr_run.specs.declared.charges.Charges.{Charges}

-- It has taken these items in a run by these limits.
pub record Foretells (limits : ℕ → Limit) (popped : List Captured) (charges : Charges) : Type 0 where
  pub greatest : charges.greatest ≡ (recorder_after (run_by limits) popped).greatest
  pub sixteen : length charges.due ≡ 16
  pub due : (g : ℕ) → g < 16 → (slice_index_or charges.due g false ≡ true) ↔ IsDue ((recorder_after (run_by limits) popped).pending g)
  pub metered : IsMeterOf limits charges.meter (recorder_after (run_by limits) popped).made

-- Behind these items the records of this one take just so many bytes, and no more than are left; then it was taken. Or they take more than are
-- left, and it was not.
abbrev pub TakesWithin : (ℕ → Limit) → List Captured → Captured → (left : ℕ) → Charges → Option ℕ → Type 0
TakesWithin limits popped c left after (Some size) =
    (bytes_of limits (popped ++ c ∷ []) ≡ bytes_of limits popped + size) × (size ≤ left) × Foretells limits (popped ++ c ∷ []) after
TakesWithin limits popped c left after None = (bytes_of limits popped + left < bytes_of limits (popped ++ c ∷ [])) × Foretells limits popped after

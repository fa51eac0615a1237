-- The sums of a group's port in a run (this project's profile).
use Rattle.std.specs.Prelude.{ℕ, List, length}
use Rattle.vdr_terms.specs.Records.{Item, Record}
use Rattle.vdr_core.specs.Sums.{missed_in, recorded_in}
use Rattle.vdr_capture.specs.declared.sums.GroupSums.{GroupSums}

-- What a group's port gave, what of it is recorded, and what the Gaps say was missed.
abbrev pub sums_of : (g : ℕ) → List Item → List Record → GroupSums
sums_of g given run = record { taken = length given; recorded = recorded_in g run; counts = missed_in g run }

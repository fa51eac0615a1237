-- How many bytes are read to tell what media are (this project's profile).
use Rattle.std.specs.Prelude.{◌≡◌, ◌≤◌, ◌+◌, ◌*◌, ℕ, List, get_or, All}
use Rattle.vdr_terms.specs.Slots.{slot_count}
use Rattle.vdr_opening.specs.Costs.{opening_bytes}
use Rattle.vdr_opening.specs.Media.{members_with, Contents}

-- Of each of the media of these sizes at most twice as many bytes were read as opening reads: the superblock, the incident slots and the
-- configuration, the headers of all segments, and whole those whose header has no summary. Of media beside them none was.
pub record ReadsTwice (x : Contents) (sizes before now : List ℕ) : Type 0 where
  pub each : All (λ m. get_or now m 0 ≤ get_or before m 0 + 2 * opening_bytes 32768 x.config.segment (slot_count x.config.segment (get_or sizes m 0)) (x.placed m)) (members_with x.further)
  pub others : (k : ℕ) → 2 + x.further ≤ k → get_or now k 0 ≡ get_or before k 0

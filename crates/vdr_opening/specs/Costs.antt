-- How many bytes opening reads of the media (this project's profile).
use Rattle.std.specs.Prelude.{◌≡◌, ◌≤◌, ◌+◌, ◌*◌, ℕ, List, get_or, All}
use Rattle.vdr_terms.specs.Slots.{slot_count}
use Rattle.vdr_directory.specs.Costs.{lacking}
use Rattle.vdr_directory.specs.Sequence.{Placed}
use Rattle.vdr_media.specs.Formatted.{members_with}
use Rattle.vdr_opening.specs.Media.{Contents}

-- Of a medium: so many bytes of what stands before its slots, 64 of each slot, and whole the segments whose header has no summary.
abbrev pub opening_bytes : (front segment slots : ℕ) (known : List Placed) → ℕ
opening_bytes front segment slots known = front + 64 * slots + segment * lacking known

-- Of each of the media of these sizes, of whose segments this is known, at most so many bytes were read, and of a further medium none.
pub record ReadsParts (further front segment : ℕ) (known : ℕ → List Placed) (sizes before now : List ℕ) : Type 0 where
  pub each : All (λ m. get_or now m 0 ≤ get_or before m 0 + opening_bytes front segment (slot_count segment (get_or sizes m 0)) (known m)) (members_with further)
  pub others : (k : ℕ) → 2 + further ≤ k → get_or now k 0 ≡ get_or before k 0

-- The media were opened, of which this was read: what stands before the slots of each is below 32,768 bytes.
abbrev pub ReadsToOpen : (x : Contents) (sizes before now : List ℕ) → Type 0
ReadsToOpen x sizes before now = ReadsParts x.further 32768 x.config.segment x.placed sizes before now

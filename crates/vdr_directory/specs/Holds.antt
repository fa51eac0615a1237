-- What a medium's slots hold, and what a directory tells of it.
use Rattle.std.specs.Prelude.{◌≡◌, ℕ, List, length, Any, option_map, Option}
use Rattle.vdr_terms.specs.Records.{last}
use Rattle.vdr_segment.specs.Segments.{Segment}
use Rattle.vdr_index.specs.Extents.{extent_of}
use Rattle.vdr_segment.specs.Slots.{HoldsSlots}
use Rattle.vdr_directory.specs.Sequence.{Placed, AreInSequence, batches_in}
use Rattle.vdr_directory.specs.Directories.{DirectoryState, newest_of, ending_by}
use Rattle.vdr_directory.specs.Indexed.{IsIndexed}

-- The medium's open slots hold these segments.
pub record HoldsPlaced (segment count : ℕ) (placed : List Placed) (bytes : List ℕ) : Type 0 where
  pub slots : List (Option Segment)
  pub all_slots : length slots ≡ count
  pub holds : HoldsSlots segment slots bytes
  pub sequence : AreInSequence slots placed

-- They hold what one of these stages says.
abbrev pub HoldsAny : (segment count : ℕ) → List (List Placed) → List ℕ → Type 0
HoldsAny segment count stages bytes = Any (λ placed. HoldsPlaced segment count placed bytes) stages

-- The directory tells of these segments: its index knows of each, and it keeps the newest of them and the end of their records.
pub record Tells (count : ℕ) (placed : List Placed) (directory : DirectoryState) : Type 0 where
  pub index : IsIndexed count placed directory.index
  pub newest : directory.newest ≡ option_map newest_of (last placed)
  pub ending : directory.ending ≡ option_map ending_by (extent_of (batches_in placed))

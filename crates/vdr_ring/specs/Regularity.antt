-- What a ring's configuration promises of its media, and what an append takes from them (this project's profile).
use Rattle.std.specs.Prelude.{◌≡◌, ◌⊎◌, ◌<◌, ◌≤◌, ◌+◌, ℕ, List, [], ◌∷◌, ◌++◌, All}
use Rattle.vdr_terms.specs.Records.{Record}
use Rattle.vdr_terms.specs.Needs.{Sizes, cost, usable, needed_slots}
use Rattle.vdr_durability.specs.Layout.{Batches}
use Rattle.vdr_durability.specs.Regular.{IsPaced, IsRegular}
use Rattle.vdr_durability.specs.Retention.{Pin}
use Rattle.vdr_durability.specs.Victims.{ArePinsOf}
use Rattle.vdr_directory.specs.Sequence.{Placed, segments_in, all_records}
use Rattle.vdr_directory.specs.Leaving.{IsExactlySummarized}

-- There are no segments, or the older ones are well filled beside the newest.
abbrev pub AreLaidOut : (cost usable batch : ℕ) → List Placed → Type 0
AreLaidOut cost usable batch placed =
    (placed ≡ []) ⊎ ((older : List Batches) × (newest : Batches) × (segments_in placed ≡ older ++ newest ∷ []) × IsRegular cost usable batch older newest)

-- A medium is regular: its segments are laid out so, and each summary is exactly that of its segment's records.
pub record AreRegular (cost usable batch : ℕ) (placed : List Placed) : Type 0 where
  pub layout : AreLaidOut cost usable batch placed
  pub exact : All IsExactlySummarized placed

-- A batch that a configuration allows on its medium m: a ring of `count` slots of `size` bytes and a window of so many
-- seconds, with these pins and these segments.
pub record IsAllowed (sizes : Sizes) (m size count seconds : ℕ) (pins : List Pin) (placed : List Placed) (records : List Record) : Type 0 where
  pub regular : AreRegular (cost sizes) (usable sizes) sizes.batch placed
  pub paced : IsPaced (cost sizes) sizes.batch (segments_in placed) records
  pub saves : ArePinsOf sizes m (all_records placed) pins
  pub slots : needed_slots sizes m ≤ count
  pub segment : sizes.segment ≡ size
  pub room : 64 + (sizes.batch + 6) < sizes.segment
  pub window : sizes.seconds m ≡ seconds
  pub some : 0 < seconds

-- These are the same segments, or all but one of them.
abbrev pub MissOneAtMost : (closed placed : List Placed) → Type 0
MissOneAtMost closed placed =
    (closed ≡ placed) ⊎ ((before : List Placed) × (victim : Placed) × (after : List Placed) × (placed ≡ before ++ victim ∷ after) × (closed ≡ before ++ after))

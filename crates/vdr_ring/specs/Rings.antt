-- A ring, and what it says of its medium.
use Rattle.std.specs.Prelude.{◌≡◌, ◌⊎◌, ◌<◌, ◌≤◌, ◌+◌, ◌*◌, ℕ, List, [], length, get_or, Option, Some}
use Rattle.vdr_outside.specs.Disk.{Disk, content}
use Rattle.vdr_outside.specs.Moments.{Settled}
use Rattle.vdr_outside.specs.Parts.{part}
use Rattle.vdr_index.specs.Indexes.{IsNewest}
use Rattle.vdr_terms.specs.Slots.{slots_from}
use Rattle.vdr_segment.specs.Slots.{place_of}
use Rattle.vdr_directory.specs.Sequence.{Placed}
use Rattle.vdr_directory.specs.Order.{AreInOrder}
use Rattle.vdr_directory.specs.Holds.{HoldsPlaced, Tells}
use Rattle.vdr_directory.specs.Knowns.{AreInOrderBy}
use Rattle.vdr_directory.specs.Opening.{AreKnown}
use Rattle.vdr_directory.specs.Telling.{TellsBy}
use Rattle.vdr_directory.specs.Directories.{DirectoryState}
use Rattle.vdr_directory.specs.Bringing.{bare_of}

-- A ring: where the slots of its medium stand, its window in seconds, its directory, the slot that its buffer holds, and
-- the slots of the segments that it brings up.
pub record RingState : Type 0 where
  pub medium : ℕ
  pub segment : ℕ
  pub slots : ℕ
  pub seconds : ℕ
  pub directory : DirectoryState
  pub buffer : List ℕ
  pub loaded : Option ℕ
  pub bare : List ℕ

-- It brings up all segments that are to get a summary, or none.
abbrev pub BringsUp : RingState → List Placed → Type 0
BringsUp ring placed = (ring.bare ≡ []) ⊎ (ring.bare ≡ bare_of placed)

-- There is such a medium among those of these sizes, and all its slots stand within it.
pub record HasMedium (ring : RingState) (sizes : List ℕ) : Type 0 where
  pub there : ring.medium < length sizes
  pub room : slots_from + ring.slots * ring.segment ≤ get_or sizes ring.medium 0

module _ {tells tells_images : Type 0} where
  -- The ring's medium reads as these segments, in a legal order, a stop leaves it so, and the directory tells of them.
  pub record Reads (ring : RingState) (placed : List Placed) (disk : Disk tells tells_images) : Type 0 where
    pub settled : Settled ring.medium (HoldsPlaced ring.segment ring.slots placed) disk
    pub order : AreInOrder placed
    pub directory : Tells ring.slots placed ring.directory
    pub loaded : (j : ℕ) → ring.loaded ≡ Some j → tells → ring.buffer ≡ part (content disk.reads ring.medium) (place_of ring.segment j) ring.segment
    pub bare : BringsUp ring placed

  -- The parts of the ring's medium that opening reads are these, in a legal order, and the directory tells of them.
  pub record Knows (ring : RingState) (known : List Placed) (disk : Disk tells tells_images) : Type 0 where
    pub are : tells → AreKnown ring.segment ring.slots (content disk.reads ring.medium) known
    pub order : AreInOrderBy known
    pub directory : TellsBy ring.slots known ring.directory
    pub loaded : (j : ℕ) → ring.loaded ≡ Some j → tells → ring.buffer ≡ part (content disk.reads ring.medium) (place_of ring.segment j) ring.segment

-- Its buffer holds the slot of the segment that has the last record, if any.
abbrev pub HoldsNewest : RingState → Type 0
HoldsNewest ring = (slot : ℕ) → IsNewest ring.directory.index slot → ring.loaded ≡ Some slot

-- Where its slots stand, and its window, stay as they were.
pub record IsSameRing (old new : RingState) : Type 0 where
  pub medium : new.medium ≡ old.medium
  pub segment : new.segment ≡ old.segment
  pub slots : new.slots ≡ old.slots
  pub seconds : new.seconds ≡ old.seconds

-- It stays as it is, and its medium among those of these sizes.
pub record StaysOnMedium (old new : RingState) (sizes : List ℕ) : Type 0 where
  -- its slots and its window are as before
  pub same : IsSameRing old new
  -- its medium is among them
  pub medium : HasMedium new sizes

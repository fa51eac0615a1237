-- What the steps of an append find and leave. No public clause cites it.
use Rattle.std.specs.Prelude.{◌≡◌, ◌≢◌, ◌⊎◌, ◌<◌, ◌≤◌, ◌+◌, ℕ, List, [], ◌∷◌, ◌++◌, length, All, Option, Some, None}
use Rattle.vdr_terms.specs.Records.{Record, last}
use Rattle.vdr_terms.specs.Sizes.{batch_size}
use Rattle.vdr_outside.specs.Disk.{Disk, Rises}
use Rattle.vdr_outside.specs.Moments.{Settled}
use Rattle.vdr_segment.specs.Batches.{IsBatch}
use Rattle.vdr_durability.specs.Retention.{Pin}
use Rattle.vdr_directory.specs.declared.newest.Newest.{Newest}
use Rattle.vdr_directory.specs.Sequence.{Placed}
use Rattle.vdr_directory.specs.Order.{AreInOrder}
use Rattle.vdr_directory.specs.Holds.{HoldsPlaced, Tells}
use Rattle.vdr_ring.specs.Rings.{RingState}
use Rattle.vdr_directory.specs.Closed.{IsFull, IsLeastClosed}
use Rattle.vdr_directory.specs.Growing.{with_batch_in, Continues}
use Rattle.vdr_ring.specs.Stages.{IsVictim, HasRoom, Stages}

-- The segment has room behind its batches for so many bytes and the gate that closes them.
abbrev pub HasRoomFor : (segment size : ℕ) → Option Newest → Type 0
HasRoomFor segment size None = ⊥
HasRoomFor segment size (Some n) = n.end + size + 1 ≤ segment

-- A legal batch that goes on where the medium ends, and fits a new segment.
pub record MayCome (size : ℕ) (placed : List Placed) (first : ℕ) (records : List Record) : Type 0 where
  pub legal : IsBatch records
  pub fits : 64 + batch_size records + 1 ≤ size
  pub goes_on : Continues placed first records

-- It has no room in the newest segment.
abbrev pub HasNoRoom : (size : ℕ) → List Placed → List Record → Type 0
HasNoRoom size placed records = (p : Placed) → last placed ≡ Some p → HasRoom size p records → ⊥

-- The slot of the next segment, and what stands in the others.
abbrev pub LeavesFree : (count seconds : ℕ) (pins : List Pin) (placed : List Placed) (slot : ℕ) (closed : List Placed) → Type 0
LeavesFree count seconds pins placed slot closed =
    (IsLeastClosed count placed slot × (closed ≡ placed))
    ⊎ (IsFull count placed × (before : List Placed) × (victim : Placed) × (after : List Placed) × IsVictim seconds pins placed before victim after × (slot ≡ victim.slot) × (closed ≡ before ++ after))

module _ {tells tells_images : Type 0} where
  -- The clock rises, or nothing was written.
  abbrev pub RisesOrStays : Disk tells tells_images → Disk tells tells_images → Type 0
  RisesOrStays old new = Rises old new ⊎ (new.clock ≡ old.clock)

  -- The ring's medium reads as these segments, a stop leaves it so, and the directory tells of them.
  pub record Stands (ring : RingState) (placed : List Placed) (disk : Disk tells tells_images) : Type 0 where
    pub settled : Settled ring.medium (HoldsPlaced ring.segment ring.slots placed) disk
    pub directory : Tells ring.slots placed ring.directory

  -- A slot is free for the next segment.
  pub record IsFree (ring : RingState) (slot : ℕ) (closed : List Placed) (disk : Disk tells tells_images) : Type 0 where
    pub stands : Stands ring closed disk
    pub within : slot < ring.slots
    pub free : All (λ p. p.slot ≢ slot) closed

  -- The newest segment is the one into which the batch goes.
  pub record IsReady (ring : RingState) (records : List Record) (stages : Stages) (disk : Disk tells tells_images) : Type 0 where
    pub older : List Placed
    pub newest : Placed
    pub begun : stages.begun ≡ older ++ newest ∷ []
    pub done : stages.done ≡ older ++ with_batch_in newest records ∷ []
    pub stands : Stands ring (older ++ newest ∷ []) disk
    pub order : AreInOrder stages.done
    -- a segment that is begun alone may have any first place
    pub begun_order : 1 < length (older ++ newest ∷ []) → AreInOrder (older ++ newest ∷ [])

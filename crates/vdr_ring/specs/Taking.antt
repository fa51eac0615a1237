-- A batch on its way to one medium.
use Rattle.std.specs.Prelude.{◌≡◌, ◌⊎◌, ℕ, Bool, true, List, [], Result, OnOk, ⊤}
use Rattle.vdr_terms.specs.Needs.{Sizes}
use Rattle.vdr_terms.specs.Records.{Record}
use Rattle.vdr_durability.specs.Retention.{Pin, Retains}
use Rattle.vdr_outside.specs.declared.fault.Fault.{Fault}
use Rattle.vdr_outside.specs.Disk.{Disk, content}
use Rattle.vdr_outside.specs.Moments.{ChangesOnly}
use Rattle.vdr_segment.specs.Slots.{SameFront}
use Rattle.vdr_directory.specs.Sequence.{Placed, all_records}
use Rattle.vdr_directory.specs.Order.{AreInOrder}
use Rattle.vdr_directory.specs.Holds.{HoldsPlaced}
use Rattle.vdr_directory.specs.Growing.{Continues}
use Rattle.vdr_ring.specs.Rings.{RingState, Reads}
use Rattle.vdr_ring.specs.Regularity.{IsAllowed}
use Rattle.vdr_ring.specs.Stages.{AreStages, Stages}

-- What an append leaves of its ring's medium, stage by stage.
abbrev pub AreStagesOn : RingState → List Pin → List Placed → ℕ → List Record → Stages → Type 0
AreStagesOn ring pins placed first records stages = AreStages ring.segment ring.slots ring.seconds pins placed first records stages

-- The segments with the batch, before the one that it leaves behind has its summary and then.
abbrev pub HaveBatch : Stages → List Placed → Type 0
HaveBatch stages now = (now ≡ stages.done) ⊎ (now ≡ stages.left)

-- A medium that was given all these records may take the batch.
pub record MayTake (sizes : Sizes) (ring : RingState) (pins : List Pin) (placed : List Placed) (first : ℕ) (all records : List Record) : Type 0 where
  pub allowed : IsAllowed sizes ring.medium ring.segment ring.slots ring.seconds pins placed records
  pub begins : placed ≡ [] → first ≡ 0
  pub retains : Retains ring.seconds pins all (all_records placed)

-- A medium that lacks the batch: it is as it was, a segment is closed, or one is begun. It is in order, where that is told.
pub record Lacks (ordered : Bool) (ring : RingState) (pins : List Pin) (placed : List Placed) (first : ℕ) (records : List Record) (was bytes : List ℕ) : Type 0 where
  pub now : List Placed
  pub holds : HoldsPlaced ring.segment ring.slots now bytes
  pub stage : (now ≡ placed) ⊎ ((stages : Stages) × AreStagesOn ring pins placed first records stages × ((now ≡ stages.closed) ⊎ (now ≡ stages.begun)))
  pub order : ordered ≡ true → AreInOrder now
  pub front : SameFront was bytes

-- One that has it.
pub record Has (ordered : Bool) (ring : RingState) (pins : List Pin) (placed : List Placed) (first : ℕ) (records : List Record) (was bytes : List ℕ) : Type 0 where
  pub stages : Stages
  pub are : AreStagesOn ring pins placed first records stages
  pub now : List Placed
  pub stage : HaveBatch stages now
  pub holds : HoldsPlaced ring.segment ring.slots now bytes
  pub order : ordered ≡ true → AreInOrder now
  pub front : SameFront was bytes

module _ {tells tells_images : Type 0} where
  -- The ring reads its medium, and the batch goes on there. Where it may take it, that it stays in order is told.
  pub record Waits (ordered : Bool) (sizes : Sizes) (ring : RingState) (pins : List Pin) (placed : List Placed) (first : ℕ) (all records : List Record) (disk : Disk tells tells_images) : Type 0 where
    pub reads : Reads ring placed disk
    pub goes_on : Continues placed first records
    pub may : ordered ≡ true → MayTake sizes ring pins placed first all records

  -- The ring as it is now reads the batch there.
  pub record IsGiven (ring now : RingState) (pins : List Pin) (placed : List Placed) (first : ℕ) (records : List Record) (disk : Disk tells tells_images) : Type 0 where
    pub stages : Stages
    pub are : AreStagesOn ring pins placed first records stages
    pub reads : Reads now stages.left disk

  -- Medium m while it is given the batch, and then.
  pub record IsAppendedTo (ordered : Bool) (m : ℕ) (ring now : RingState) (pins : List Pin) (placed : List Placed) (first : ℕ) (records : List Record) (before after : Disk tells tells_images) (result : Result ⊤ Fault) : Type 0 where
    pub moments : ChangesOnly m (λ bytes. Lacks ordered ring pins placed first records (content before.reads m) bytes ⊎ Has ordered ring pins placed first records (content before.reads m) bytes) before after
    pub done : OnOk result (IsGiven ring now pins placed first records after)

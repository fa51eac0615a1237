-- What every image of a medium shows during an append that its configuration allows.
use Rattle.std.specs.Prelude.{◌≡◌, ◌⊎◌, ℕ, List, [], ◌∷◌, ◌++◌}
use Rattle.vdr_terms.specs.Records.{Record}
use Rattle.vdr_terms.specs.Needs.{Sizes, cost, usable}
use Rattle.vdr_outside.specs.Disk.{Disk}
use Rattle.vdr_durability.specs.Retention.{Pin, Retains}
use Rattle.vdr_directory.specs.Sequence.{Placed, batches_in, all_records}
use Rattle.vdr_directory.specs.Order.{AreInOrder}
use Rattle.vdr_directory.specs.Holds.{HoldsPlaced}
use Rattle.vdr_ring.specs.Rings.{RingState, Reads}
use Rattle.vdr_ring.specs.Regularity.{AreRegular, MissOneAtMost}

-- Whole batches that the medium had, all but those of one segment at the most, with the new one behind them or without.
pub record AreWhole (placed now : List Placed) (records : List Record) : Type 0 where
  pub kept : List Placed
  pub missing : MissOneAtMost kept placed
  pub batches : (batches_in now ≡ batches_in kept) ⊎ (batches_in now ≡ batches_in kept ++ records ∷ [])

-- The medium is legal, reads as whole batches, and keeps of all the records that it was given, without the new ones or with
-- them, its window and the pinned ones.
pub record IsKept (size count seconds : ℕ) (pins : List Pin) (placed : List Placed) (all records : List Record) (bytes : List ℕ) : Type 0 where
  pub now : List Placed
  pub holds : HoldsPlaced size count now bytes
  pub order : AreInOrder now
  pub whole : AreWhole placed now records
  pub retains : Retains seconds pins all (all_records now) ⊎ Retains seconds pins (all ++ records) (all_records now)

-- Once a batch is appended: the ring reads the medium as regular segments that keep all these records' window and pinned places.
pub record HasKept {tells tells_images : Type 0} (sizes : Sizes) (pins : List Pin) (all : List Record) (ring : RingState) (disk : Disk tells tells_images) : Type 0 where
  pub placed : List Placed
  pub reads : Reads ring placed disk
  pub retains : Retains ring.seconds pins all (all_records placed)
  pub regular : AreRegular (cost sizes) (usable sizes) sizes.batch placed

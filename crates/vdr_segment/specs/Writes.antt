-- What is left of what stands before the slots of a medium.
use Rattle.std.specs.Prelude.{ℕ}
use Rattle.vdr_outside.specs.Disk.{Disk, Durable, content}
use Rattle.vdr_outside.specs.Moments.{ChangesOnly}
use Rattle.vdr_segment.specs.Slots.{SameFront}

-- Nothing before the slots of medium m was touched, whether the call succeeded or not.
pub record KeepsFront {tells tells_images : Type 0} (m : ℕ) (old new : Disk tells tells_images) : Type 0 where
  -- at every moment, where nothing of the medium was unsynced
  pub meanwhile : Durable m old → ChangesOnly m (SameFront (content old.reads m)) old new
  -- as it reads, also where the call fails
  pub reads : tells → SameFront (content old.reads m) (content new.reads m)

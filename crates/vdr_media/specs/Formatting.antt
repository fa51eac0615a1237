-- What a stop at each moment of `format` leaves.
use Rattle.std.specs.Prelude.{◌⊎◌, ℕ, ◌≤◌, Result, IsErr}
use Rattle.vdr_outside.specs.Disk.{Disk, Image, Overwritten}
use Rattle.vdr_outside.specs.Moments.{AtEachMoment}
use Rattle.vdr_media.specs.Formatted.{IsUnformatted}

-- One of these images, which byte 0 of medium 0 alone made unformatted.
pub record ClosedAlone (from : Image → Type 0) (i : Image) : Type 0 where
  pub overwritten : Overwritten 0 0 1 from i
  pub unformatted : IsUnformatted i

module _ {tells tells_images : Type 0} where
  -- The call ended before medium 0 was synced with its gate closed. At every moment a stop left what a stop before the call might have
  -- left, or the same with that gate closed.
  pub record EndsBeforeSync {T E : Type 0} (old new : Disk tells tells_images) (result : Result T E) : Type 0 where
    pub failed : IsErr result
    pub moments : AtEachMoment old new (λ i. old.now i ⊎ ClosedAlone old.now i)

  -- Medium 0 was synced with its gate closed, at a moment of the call. Until then a stop may have left what a stop before the call might
  -- have left; from then on it left unformatted media, or a new history.
  pub record GoesOnSynced (old new : Disk tells tells_images) (IsNew : Image → Type 0) : Type 0 where
    pub synced : ℕ
    pub after_entry : old.clock ≤ synced
    pub before_exit : synced ≤ new.clock
    pub moments : AtEachMoment old new (λ i. old.now i ⊎ (IsUnformatted i ⊎ IsNew i))
    pub since : (i : Image) → new.since synced i → IsUnformatted i ⊎ IsNew i

  abbrev pub FormatsAtEachMoment : {T E : Type 0} → Disk tells tells_images → Disk tells tells_images → Result T E → (Image → Type 0) → Type 0
  FormatsAtEachMoment old new result IsNew = EndsBeforeSync old new result ⊎ GoesOnSynced old new IsNew

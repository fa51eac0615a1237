-- Media of this product: never formatted, or formatted by it and then used, with any stops (this project's profile).
use Rattle.std.specs.Prelude.{◌≡◌, ◌≤◌, ◌⊎◌}
use Rattle.vdr_durability.specs.Readings.{EndsMeet}
use Rattle.vdr_outside.specs.Disk.{Disk, Image}
use Rattle.vdr_media.specs.Formatted.{IsUnformatted}
use Rattle.vdr_opening.specs.Media.{members_with, Contents, HoldsContents, reading_of}
use Rattle.vdr_vault.specs.Regularity.{AreSound}

-- Not formatted; or legible with ends that meet, and sound.
abbrev pub IsOurs : Image → Type 0
IsOurs image = IsUnformatted image ⊎ ((x : Contents) × HoldsContents image x × EndsMeet (members_with x.further) (reading_of x) × AreSound x)

module _ {tells tells_images : Type 0} where
  -- Each image that a stop now may leave is.
  abbrev pub AreOurs : Disk tells tells_images → Type 0
  AreOurs disk = (image : Image) → disk.now image → IsOurs image

  -- Each image that a stop at some moment from old to new may have left is.
  pub record StayOurs (old new : Disk tells tells_images) : Type 0 where
    pub later : old.clock ≤ new.clock
    pub each : (image : Image) → new.since old.clock image → IsOurs image

  -- The media rest as this image: they read so, and a stop leaves nothing else.
  pub record RestAs (image : Image) (disk : Disk tells tells_images) : Type 0 where
    pub reads : disk.reads ≡ image
    pub alone : (i : Image) → disk.now i → i ≡ image

-- What a medium holds while segments that lack a summary get it.
use Rattle.std.specs.Prelude.{◌≡◌, ℕ, List, [], Result, OnOk}
use Rattle.vdr_outside.specs.Disk.{Disk}
use Rattle.vdr_outside.specs.declared.media.Media.{Ghosts as MediaTells}
use Rattle.vdr_outside.specs.Moments.{Settled}
use Rattle.vdr_directory.specs.Sequence.{Placed}
use Rattle.vdr_directory.specs.Order.{AreInOrder}
use Rattle.vdr_directory.specs.Directories.{DirectoryState}
use Rattle.vdr_directory.specs.Holds.{HoldsPlaced, Tells}
use Rattle.vdr_directory.specs.Bringing.{AreAlike, IsBroughtUp, bare_of}
use Rattle.vdr_segment.specs.Writes.{KeepsFront}
use Rattle.vdr_ring.specs.Rings.{RingState, Reads, StaysOnMedium}
use Rattle.vdr_ring.specs.Visits.{HasJudged}

-- The same segments, in a legal order, some with a summary that they had not.
pub record HoldsAlike (segment count : ℕ) (placed : List Placed) (bytes : List ℕ) : Type 0 where
  pub now : List Placed
  pub holds : HoldsPlaced segment count now bytes
  pub alike : AreAlike placed now
  pub order : AreInOrder now

module _ {tells tells_images : Type 0} where
  -- The medium reads as such segments. Those in these slots are still to get a summary.
  pub record StandsAlike (m segment count : ℕ) (placed : List Placed) (directory : DirectoryState) (bare : List ℕ) (disk : Disk tells tells_images) : Type 0 where
    pub now : List Placed
    pub settled : Settled m (HoldsPlaced segment count now) disk
    pub order : AreInOrder now
    pub directory_tells : Tells count now directory
    pub alike : AreAlike placed now
    pub still : bare ≡ bare_of now

  -- The ring reads its medium as such segments. Where it brought up all that were to get a summary, none is any more.
  pub record HasBroughtUp (placed : List Placed) (old new : RingState) (disk : Disk tells tells_images) : Type 0 where
    pub now : List Placed
    pub reads : Reads new now disk
    pub alike : AreAlike placed now
    pub brought : old.bare ≡ bare_of placed → IsBroughtUp now

-- What bringing up a ring keeps, whatever becomes of it.
pub record KeepsBroughtUp {M T E : Type 0} (media : MediaTells M) (old new : RingState) (before after : M)
    (result : Result T E) : Type 0 where
  -- where no segment is to get a summary, nothing is called
  pub level : old.bare ≡ [] → (new ≡ old) × (after ≡ before)
  -- the directory is as before
  pub directory : new.directory ≡ old.directory
  -- after Ok none is to get one
  pub bare : OnOk result (new.bare ≡ [])
  -- a slot that was loaded and judged still is
  pub judged : HasJudged old (media.disk before) → HasJudged new (media.disk after)
  -- the ring stays on its medium
  pub ring : StaysOnMedium old new (media.disk after).sizes
  -- nothing before the slots is touched
  pub front : KeepsFront old.medium (media.disk before) (media.disk after)

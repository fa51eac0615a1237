-- A batch on its way to the media of a vault, one after another.
use Rattle.std.specs.Prelude.{◌≡◌, ◌⊎◌, ◌≤◌, ◌<◌, ◌==◌, if◌then◌else◌, ℕ, Bool, List, [], get_or, length, Result, OnErr, OnOk, ⊤}
use Rattle.vdr_terms.specs.Records.{Record}
use Rattle.vdr_durability.specs.Retention.{Pin}
use Rattle.vdr_outside.specs.declared.fault.Fault.{Fault}
use Rattle.vdr_outside.specs.declared.media.Media.{Ghosts as MediaTells}
use Rattle.vdr_outside.specs.Causes.{NoneFalls, Rose}
use Rattle.vdr_outside.specs.Disk.{Disk, Image, content}
use Rattle.vdr_outside.specs.Moments.{AtEachMoment}
use Rattle.vdr_segment.specs.Slots.{SameFront}
use Rattle.vdr_directory.specs.Sequence.{Placed}
use Rattle.vdr_ring.specs.Rings.{RingState}
use Rattle.vdr_config.specs.Configuration.{Configuration}
use Rattle.vdr_opening.specs.Answers.{AreRingsOf, ring_at}
use Rattle.vdr_ring.specs.Taking.{Lacks, Has, IsGiven}

-- The pins that medium m keeps, where the long-term medium keeps these: no other keeps any.
abbrev pub pins_at : ℕ → List Pin → List Pin
pins_at m pins = if m == 1 then pins else []

-- An error comes only where the count of faults of one of the media from one number to another rose.
abbrev pub HasCauseFrom : {T E : Type 0} → (from count : ℕ) → (before now : List ℕ) → Result T E → Type 0
HasCauseFrom from count before now result = OnErr result ((k : ℕ) × (from ≤ k) × (k < count) × Rose (get_or before k 0) (get_or now k 0))

-- Of the media from one number to another the first have it, and the others lack it. All other media are as in one of the images before.
pub record Passes (LacksIt HasIt : ℕ → List ℕ → Type 0) (from count : ℕ) (before : Image → Type 0) (i : Image) : Type 0 where
  pub given : ℕ
  pub above : from ≤ given
  pub below : given ≤ count
  pub has : (k : ℕ) → from ≤ k → k < given → HasIt k (content i k)
  pub lack : (k : ℕ) → given ≤ k → k < count → LacksIt k (content i k)
  pub image : Image
  pub was : before image
  pub others : (k : ℕ) → (k < from) ⊎ (count ≤ k) → content i k ≡ content image k

module _ {tells tells_images : Type 0} where
  -- The media from a number on, by their rings, are given the batch in their order.
  pub record Passed (ordered : Bool) (from : ℕ) (old new : List RingState) (pins : List Pin) (placed : ℕ → List Placed) (first : ℕ) (records : List Record) (before after : Disk tells tells_images) (result : Result ⊤ Fault) : Type 0 where
    pub moments : AtEachMoment before after (Passes
        (λ k. Lacks ordered (ring_at old k) (pins_at k pins) (placed k) first records (content before.reads k))
        (λ k. Has ordered (ring_at old k) (pins_at k pins) (placed k) first records (content before.reads k))
        from (length old) before.now)
    pub done : OnOk result ((k : ℕ) → from ≤ k → k < length old → IsGiven (ring_at old k) (ring_at new k) (pins_at k pins) (placed k) first records after)

-- What a call that writes to the media from a number on keeps, whatever becomes of it.
pub record KeepsBeside {M : Type 0} (media : MediaTells M) (from : ℕ) (old new : List RingState) (before after : M) : Type 0 where
  -- there are as many rings, each is its medium's, and those below are as before
  pub size : length new ≡ length old
  pub rings : (c : Configuration) → AreRingsOf c (media.disk before).sizes old → AreRingsOf c (media.disk after).sizes new
  pub untouched : (k : ℕ) → k < from → ring_at new k ≡ ring_at old k
  -- nothing before the slots was touched
  pub fronts : media.tells → (k : ℕ) → SameFront (content (media.disk before).reads k) (content (media.disk after).reads k)
  -- the other media read as before
  pub others : media.tells → (k : ℕ) → (k < from) ⊎ (length old ≤ k) → content (media.disk after).reads k ≡ content (media.disk before).reads k
  -- no medium changes its size, nothing was read, and no count of faults falls
  pub sizes : (media.disk after).sizes ≡ (media.disk before).sizes
  pub counts : media.bytes_read after ≡ media.bytes_read before
  pub later : NoneFalls (media.faults before) (media.faults after)

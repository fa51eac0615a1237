-- The media of a vault while their segments that lack a summary get it.
use Rattle.std.specs.Prelude.{◌≡◌, ◌≤◌, ◌<◌, ℕ, List, length, Result, OnOk, ⊤}
use Rattle.vdr_outside.specs.declared.fault.Fault.{Fault}
use Rattle.vdr_outside.specs.Disk.{Disk, Image, content}
use Rattle.vdr_outside.specs.Moments.{AtEachMoment}
use Rattle.vdr_segment.specs.Slots.{SameFront}
use Rattle.vdr_directory.specs.Sequence.{Placed}
use Rattle.vdr_ring.specs.Rings.{RingState}
use Rattle.vdr_ring.specs.Bringing.{HasBroughtUp, HoldsAlike}
use Rattle.vdr_opening.specs.Answers.{ring_at}

-- The medium of a ring holds the same segments, some with a summary that they had not, and nothing before its slots was touched.
abbrev pub StaysAlike : RingState → List Placed → (was bytes : List ℕ) → Type 0
StaysAlike ring placed was bytes = HoldsAlike ring.segment ring.slots placed bytes × SameFront was bytes

-- Each of the media of these rings does so. All others are as in one of the images before.
pub record AllStayAlike (rings : List RingState) (placed : ℕ → List Placed) (reads : Image) (before : Image → Type 0) (i : Image) : Type 0 where
  pub each : (k : ℕ) → k < length rings → StaysAlike (ring_at rings k) (placed k) (content reads k) (content i k)
  pub image : Image
  pub was : before image
  pub others : (k : ℕ) → length rings ≤ k → content i k ≡ content image k

module _ {tells tells_images : Type 0} where
  -- At every moment all media stay alike. After a success each ring reads its medium so, and those that it was to bring up are.
  pub record BringsAllUp (old new : List RingState) (placed : ℕ → List Placed) (before after : Disk tells tells_images) (result : Result ⊤ Fault) : Type 0 where
    pub moments : AtEachMoment before after (AllStayAlike old placed before.reads before.now)
    pub done : OnOk result ((k : ℕ) → k < length old → HasBroughtUp (placed k) (ring_at old k) (ring_at new k) after)

-- What the writes of `format` do to one medium.
use Rattle.std.specs.Prelude.{◌≡◌, ◌≢◌, ◌⊎◌, ℕ, ◌+◌, ◌*◌, ◌<◌, ◌≤◌, List, [], ◌∷◌, length, slice_get, get_or, Any, Result, OnErr}
use Rattle.vdr_segment.specs.Gates.{open_gate}
use Rattle.vdr_outside.specs.Causes.{Rose, NoneFalls}
use Rattle.vdr_outside.specs.Disk.{Disk, Image, SameBut, content, over}
use Rattle.vdr_outside.specs.Moments.{AtEachMoment}
use Rattle.vdr_config.specs.Configuration.{Configuration}
use Rattle.vdr_terms.specs.Slots.{slots_from}
use Rattle.vdr_media.specs.Layout.{IsClosedAt, incidents_from, incident_size, incident_count}
use Rattle.vdr_media.specs.Medium.{AreClosed, IsEmptyMedium}

-- One of these images, but for what stands behind byte 0 of medium m.
pub record SameGate (m : ℕ) (from : Image → Type 0) (i : Image) : Type 0 where
  pub image : Image
  pub was : from image
  pub others : SameBut m image i
  pub gate : slice_get (content i m) 0 ≡ slice_get (content image m) 0

-- One of these images, but for the media from one number to another.
pub record SameBesides (first count : ℕ) (from : Image → Type 0) (i : Image) : Type 0 where
  pub image : Image
  pub was : from image
  pub others : (k : ℕ) → (k < first) ⊎ (count ≤ k) → content i k ≡ content image k

-- Only bytes of medium m behind its byte 0 were written, synced or not.
pub record WritesBehindGate {tells tells_images : Type 0} (m : ℕ) (old new : Disk tells tells_images) : Type 0 where
  pub moments : AtEachMoment old new (SameGate m old.now)
  pub others : tells → SameBut m old.reads new.reads
  pub sizes : new.sizes ≡ old.sizes

-- So many gates, from a position on and a step apart, were closed, and no other byte was changed.
pub record ClosesGates (from step count : ℕ) (old new : List ℕ) : Type 0 where
  pub size : length new ≡ length old
  pub closed : AreClosed from step count new
  pub rest : (p : ℕ) → ((k : ℕ) → k < count → p ≢ from + k * step) → slice_get new p ≡ slice_get old p

-- No slot and no incident slot has an open gate.
pub record HasClosedGates (segment slots : ℕ) (bytes : List ℕ) : Type 0 where
  pub segments : AreClosed slots_from segment slots bytes
  pub incidents : AreClosed incidents_from incident_size incident_count bytes

-- All is laid out but the gate of the superblock, which may be closed: with an open one this is an empty medium.
abbrev pub IsLaidOut : ℕ → Configuration → List ℕ → List ℕ → Type 0
IsLaidOut m c text bytes = IsEmptyMedium m c text (over bytes 0 (open_gate ∷ []))

-- The gate of the superblock is closed, or this is an empty medium.
abbrev pub ClosedOrEmpty : ℕ → Configuration → List ℕ → List ℕ → Type 0
ClosedOrEmpty m c text bytes = IsClosedAt bytes 0 ⊎ IsEmptyMedium m c text bytes

abbrev pub HasClosedGate : List ℕ → Type 0
HasClosedGate bytes = IsClosedAt bytes 0

-- The count of no medium falls. An error comes only where that of one of these rose.
pub record HasCauseAmong {T E : Type 0} (members : List ℕ) (before now : List ℕ) (result : Result T E) : Type 0 where
  pub later : NoneFalls before now
  pub failed : OnErr result (Any (λ m. Rose (get_or before m 0) (get_or now m 0)) members)

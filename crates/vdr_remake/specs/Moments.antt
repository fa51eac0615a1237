-- What a stop leaves at each moment while a medium is made anew.
use Rattle.std.specs.Prelude.{◌⊎◌, ◌≤◌, ℕ, List, Result, IsErr}
use Rattle.vdr_outside.specs.Disk.{Disk, Image, content}
use Rattle.vdr_outside.specs.Moments.{AtEachMoment, Changed}
use Rattle.vdr_media.specs.Writing.{HasClosedGate}

-- The gate of the medium with these bytes is closed, or it is whole.
abbrev pub ClosedOr : (List ℕ → Type 0) → List ℕ → Type 0
ClosedOr IsWhole bytes = HasClosedGate bytes ⊎ IsWhole bytes

module _ {tells tells_images : Type 0} where
  -- At every moment the other media are as a stop before the call might have left them, and so is medium m, or its gate is closed, or it
  -- is whole. After a success a stop at a moment since one of the call, that of the first sync of medium m, left it closed or whole.
  pub record RemakesAtEachMoment {T E : Type 0} (m : ℕ) (IsWhole : List ℕ → Type 0) (old new : Disk tells tells_images) (result : Result T E) : Type 0 where
    pub moments : AtEachMoment old new (λ i. old.now i ⊎ Changed m (ClosedOr IsWhole) old.now i)
    pub since : IsErr result ⊎ ((synced : ℕ) × (old.clock ≤ synced) × (synced ≤ new.clock) × ((i : Image) → new.since synced i → ClosedOr IsWhole (content i m)))

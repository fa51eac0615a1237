-- What a maker of media promises: of the media that it makes, and of what is left of them (this project's profile).
use Rattle.std.specs.Prelude.{◌≡◌, ◌⊎◌, ℕ, Bool, true, List, [], ◌∷◌, codes, replicate, Result, Ok, Err}
use Rattle.vdr_outside.specs.Causes.{Rose}
use Rattle.vdr_outside.specs.Disk.{Disk}
use Rattle.vdr_outside.specs.Moments.{Settled}
use Rattle.vdr_adapters.specs.declared.maker.NotMade.{NotMade}
use Rattle.vdr_adapters.specs.declared.maker.NotMade.TheVariants.{NoMemory, Failed}

-- A capsule and a long-term medium of these sizes in bytes read as zeros, and a stop leaves them so.
pub record AreNew {tells tells_images : Type 0} (capsule long_term : ℕ) (disk : Disk tells tells_images) : Type 0 where
  pub sizes : disk.sizes ≡ capsule ∷ long_term ∷ []
  pub capsule_is : Settled 0 (λ bytes. bytes ≡ replicate capsule 0) disk
  pub long_term_is : Settled 1 (λ bytes. bytes ≡ replicate long_term 0) disk

-- A refusal is counted exactly where a name is taken or a call failed.
abbrev pub IsRefusalCounted : (before now : ℕ) → NotMade → Type 0
IsRefusalCounted before now NoMemory = now ≡ before
IsRefusalCounted before now Failed = Rose before now

abbrev pub IsMakingCounted : {M : Type 0} → (before now : ℕ) → Result M NotMade → Type 0
IsMakingCounted before now (Ok media) = now ≡ before
IsMakingCounted before now (Err why) = IsRefusalCounted before now why

-- What is made in a folder.
pub data Part : Type 0 where
  Folder : Part  -- the folder itself
  Named : (name : List ℕ) → Part  -- a file in it

-- What stands now stood before, or it has P.
abbrev pub Adds : (P old new : Part → Type 0) → Type 0
Adds P old new = (part : Part) → new part → P part ⊎ old part

-- What stands now stood before.
abbrev pub AddsNone : (old new : Part → Type 0) → Type 0
AddsNone old new = (part : Part) → new part → old part

-- What stands now stood before, and has not P.
abbrev pub Removes : (P old new : Part → Type 0) → Type 0
Removes P old new = (part : Part) → new part → (P part → ⊥) × old part

abbrev pub IsFolderMade : (made : Bool) → Part → Type 0
IsFolderMade made part = (part ≡ Folder) × (made ≡ true)

abbrev pub IsMediumFile : Part → Type 0
IsMediumFile part = (part ≡ Named (codes "capsule.vdr")) ⊎ (part ≡ Named (codes "longterm.vdr"))

-- The files of both media, and their folder, if that was made too.
abbrev pub IsMadePart : (made : Bool) → Part → Type 0
IsMadePart made part = IsFolderMade made part ⊎ IsMediumFile part

-- The name of one of the media is taken.
abbrev pub IsNameTaken : (taken : List ℕ → Type 0) → Type 0
IsNameTaken taken = taken (codes "capsule.vdr") ⊎ taken (codes "longterm.vdr")

-- Names that were taken still are.
abbrev pub AreStillTaken : (old new : List ℕ → Type 0) → Type 0
AreStillTaken old new = (name : List ℕ) → old name → new name

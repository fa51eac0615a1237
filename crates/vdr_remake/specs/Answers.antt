-- Which refusal comes when a medium is made anew from another.
use Rattle.std.specs.Prelude.{◌≡◌, ◌⊎◌, ℕ, List, [], ◌∷◌, get_or, Result, Ok, Err, ⊤}
use Rattle.vdr_terms.specs.Needs.{slots_in}
use Rattle.vdr_outside.specs.Disk.{Disk, content}
use Rattle.vdr_directory.specs.Sequence.{Placed}
use Rattle.vdr_directory.specs.Order.{AreInOrder}
use Rattle.vdr_directory.specs.Holds.{HoldsPlaced}
use Rattle.vdr_directory.specs.Opening.{Refuses}
use Rattle.vdr_ring.specs.Damage.{HasDamage}
use Rattle.vdr_outside.specs.declared.fault.PartRefused.{PartRefused}
use Rattle.vdr_outside.specs.declared.fault.PartRefused.TheVariants as parts
use Rattle.vdr_config.specs.Configuration.{Configuration}
use Rattle.vdr_config.specs.Sizes.{fitting_from, sizes_of}
use Rattle.vdr_config.specs.declared.media.TooSmall.{TooSmall as AnyTooSmall}
use Rattle.vdr_ring.specs.declared.refused.ReadRefused.{ReadRefused}
use Rattle.vdr_ring.specs.declared.refused.ReadRefused.TheVariants as reads
use Rattle.vdr_remake.specs.declared.refused.RemakeRefused.{RemakeRefused}
use Rattle.vdr_remake.specs.declared.refused.RemakeRefused.TheVariants.{TooSmall, NoMemory, Damaged, Fault}

abbrev pub refusal_of_part : PartRefused → RemakeRefused
refusal_of_part parts.NoMemory = NoMemory
refusal_of_part (parts.Damaged m offset) = Damaged m offset
refusal_of_part parts.Fault = Fault

abbrev pub refusal_of_read : ReadRefused → RemakeRefused
refusal_of_read reads.Fault = Fault
refusal_of_read (reads.Damaged m offset) = Damaged m offset

-- Whether medium m, of so many bytes, has the slots that it needs.
abbrev pub room_on : Configuration → (m size : ℕ) → Result ⊤ AnyTooSmall
room_on c m size = fitting_from (sizes_of c) m (size ∷ [])

-- The answer is that the medium is too small where it is, with all as before, and else another one.
abbrev pub IsTested : Result ⊤ RemakeRefused → Result ⊤ AnyTooSmall → Type 0 → Type 0
IsTested result (Err small) unchanged = (result ≡ Err (TooSmall small)) × unchanged
IsTested result (Ok fits) unchanged = (small : AnyTooSmall) → result ≡ Err (TooSmall small) → ⊥

-- A medium of so many slots with these bytes is refused at this offset: by opening, or since a slot that is copied is damaged.
abbrev pub IsRefused : (segment slots : ℕ) → List ℕ → ℕ → Type 0
IsRefused segment slots bytes offset = Refuses segment slots bytes offset ⊎ HasDamage segment slots bytes offset

module _ {tells tells_images : Type 0} where
  -- Medium m reads as these segments, in a legal order.
  pub record HoldsMedium (c : Configuration) (m : ℕ) (placed : List Placed) (disk : Disk tells tells_images) : Type 0 where
    pub holds : HoldsPlaced c.segment (slots_in (sizes_of c) (get_or disk.sizes m 0)) placed (content disk.reads m)
    pub order : AreInOrder placed

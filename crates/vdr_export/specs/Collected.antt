-- What code keeps of the parts that were met so far.
use Rattle.std.specs.Prelude.{◌≡◌, ◌⊎◌, ◌-◌, ℕ, List, [], ◌∷◌, replicate, is_none, if◌then◌else◌, slice_set, slice_index_or, Option, Some, None}
use Rattle.vdr_export.specs.Numbers.{mixed_at}
use Rattle.vdr_export.specs.Pictures.{Shown, bodies, greatest_of}
use Rattle.vdr_export.specs.declared.refused.ExportRefused.{ExportRefused}
use Rattle.vdr_export.specs.declared.refused.ExportRefused.TheVariants.{Mixed, NoMemory}

-- Room for so many parts, where there is none yet.
abbrev pub room_for : ℕ → List (Option (List ℕ)) → List (Option (List ℕ))
room_for n [] = replicate n None
room_for n (x ∷ xs) = x ∷ xs

-- The data stands where none stood.
abbrev pub with_part : (sequence : ℕ) → (body : List ℕ) → List (Option (List ℕ)) → List (Option (List ℕ))
with_part sequence body parts = if is_none (slice_index_or parts (sequence - 1) None) then slice_set parts (sequence - 1) (Some body) else parts

-- The data of as many parts as the first one says.
abbrev pub bodies_of : List Shown → List (Option (List ℕ))
bodies_of [] = []
bodies_of (p ∷ ps) = bodies p.header.greatest (p ∷ ps)

-- The parts say one number of parts; of each sequence number the data of the first part is kept.
pub record IsCollected (ps : List Shown) (kept : List (Option (List ℕ))) : Type 0 where
  pub uniform : mixed_at (greatest_of ps) ≡ None
  pub are : kept ≡ bodies_of ps
  pub begun : kept ≡ [] → ps ≡ []

-- The last of the parts is the first that says another number of parts, or there was no memory.
abbrev pub StopsAt : List Shown → ExportRefused → Type 0
StopsAt ps stop = ((place : ℕ) × (stop ≡ Mixed place) × (mixed_at (greatest_of ps) ≡ Some place)) ⊎ (stop ≡ NoMemory)

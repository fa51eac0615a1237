-- What a medium holds once it was made anew from another (this project's profile).
use Rattle.std.specs.Prelude.{◌≡◌, ◌⊎◌, ℕ, List, [], ◌∷◌, ◌++◌, length}
use Rattle.vdr_segment.specs.Gates.{open_gate}
use Rattle.vdr_segment.specs.Slots.{HoldsSlots}
use Rattle.vdr_outside.specs.Disk.{over}
use Rattle.vdr_config.specs.Configuration.{Configuration}
use Rattle.vdr_terms.specs.Slots.{slot_count}
use Rattle.vdr_media.specs.Layout.{incidents_from, incident_size, incident_count}
use Rattle.vdr_media.specs.Medium.{AreClosed, HoldsConfiguration, IsSuperblock}
use Rattle.vdr_directory.specs.Sequence.{Placed}
use Rattle.vdr_directory.specs.Order.{AreInOrder}
use Rattle.vdr_directory.specs.Holds.{HoldsPlaced}
use Rattle.vdr_remake.specs.Copies.{filled, moved}

-- Medium m is formatted with this configuration and has so many slots, its first slots hold these segments, and it has no incident.
pub record IsFilledMedium (m count : ℕ) (c : Configuration) (text : List ℕ) (placed : List Placed) (bytes : List ℕ) : Type 0 where
  pub superblock : IsSuperblock m c.segment bytes
  pub holds : HoldsConfiguration m c text bytes
  pub slots : slot_count c.segment (length bytes) ≡ count
  pub segments : HoldsSlots c.segment (filled count placed) bytes
  pub incidents : AreClosed incidents_from incident_size incident_count bytes

-- All is written but the gate of the superblock, which may be closed.
abbrev pub IsStaged : (m count : ℕ) → Configuration → List ℕ → List Placed → List ℕ → Type 0
IsStaged m count c text placed bytes = IsFilledMedium m count c text placed (over bytes 0 (open_gate ∷ []))

-- The newest of these segments, as many as there are slots: all of them, or so many.
pub record AreNewest (count : ℕ) (placed kept : List Placed) : Type 0 where
  pub left : List Placed
  pub split : placed ≡ left ++ kept
  pub most : (left ≡ []) ⊎ (length kept ≡ count)

-- Medium m is formatted with this configuration, and holds the newest of these segments of another medium, in a legal order. It has no
-- incident.
pub record IsRemade (m : ℕ) (c : Configuration) (text : List ℕ) (placed : List Placed) (bytes : List ℕ) : Type 0 where
  pub superblock : IsSuperblock m c.segment bytes
  pub holds : HoldsConfiguration m c text bytes
  pub kept : List Placed
  pub newest : AreNewest (slot_count c.segment (length bytes)) placed kept
  pub segments : HoldsPlaced c.segment (slot_count c.segment (length bytes)) (moved kept) bytes
  pub order : AreInOrder (moved kept)
  pub incidents : AreClosed incidents_from incident_size incident_count bytes

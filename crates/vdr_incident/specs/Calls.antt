-- What each call on the incident slots of the long-term medium keeps, whatever becomes of it.
use Rattle.std.specs.Prelude.{◌≡◌, ℕ, suc, List, get_or, Option, Some, is_none, option_map, position, Result, IfOk, IsErrOf, OnErr}
use Rattle.vdr_core.specs.Histories.{Incident, with_slot}
use Rattle.vdr_outside.specs.declared.fault.PartRefused.{PartRefused}
use Rattle.vdr_outside.specs.declared.fault.PartRefused.TheVariants.{Fault}
use Rattle.vdr_outside.specs.declared.media.Media.{Ghosts as MediaTells}
use Rattle.vdr_outside.specs.Causes.{NoneFalls, Rose}
use Rattle.vdr_outside.specs.Disk.{Rises, SameBut, Unchanged}
use Rattle.vdr_incident.specs.declared.refused.TableRefused.{TableRefused}
use Rattle.vdr_incident.specs.Tables.{ReadsSlots}

-- The count of no medium falls. A fault comes only where that of medium 1 rose.
pub record HasFaultCause {T : Type 0} (before now : List ℕ) (result : Result T PartRefused) : Type 0 where
  pub later : NoneFalls before now
  pub rose : IsErrOf result Fault → Rose (get_or before 1 0) (get_or now 1 0)

-- So many slots were read, or the first of them, and nothing was written.
pub record ReadsTable {M T : Type 0} (media : MediaTells M) (slots : ℕ) (old new : M) (result : Result T PartRefused) : Type 0 where
  -- nothing was written
  pub unchanged : Unchanged (media.disk old) (media.disk new)
  -- so many slots of 256 bytes were read
  pub counts : ReadsSlots slots (media.bytes_read old) (media.bytes_read new)
  -- a fault has its cause
  pub cause : HasFaultCause (media.faults old) (media.faults new) result

-- The save is in the free slot of least index, and its id is told; where it is not saved, the table stays.
pub record PutsSave (old new : List (Option Incident)) (save : Incident) (result : Result ℕ TableRefused) : Type 0 where
  -- the id is that of the free slot of least index
  pub id : IfOk result (λ id. option_map suc (position is_none old) ≡ Some id)
  -- the table has the save under its id
  pub table : IfOk result (λ id. new ≡ with_slot old id (Some save))
  -- after an error the table is as before
  pub kept : OnErr result (new ≡ old)

-- The call wrote to medium 1 alone and read nothing. A fault comes only where the count of this medium rose.
pub record WritesUnlessRefused {M : Type 0} (media : MediaTells M) (old new : M) (Refused Failed : Type 0) : Type 0 where
  -- the other media read as before
  pub others : media.tells → SameBut 1 (media.disk old).reads (media.disk new).reads
  -- no medium changes its size
  pub sizes : (media.disk new).sizes ≡ (media.disk old).sizes
  -- where images are told, the clock rises, but for a refusal
  pub rises : (Refused → ⊥) → Rises (media.disk old) (media.disk new)
  -- nothing was read
  pub counts : media.bytes_read new ≡ media.bytes_read old
  -- no count of faults falls
  pub later : NoneFalls (media.faults old) (media.faults new)
  -- a fault comes only where that of medium 1 rose
  pub rose : Failed → Rose (get_or (media.faults old) 1 0) (get_or (media.faults new) 1 0)

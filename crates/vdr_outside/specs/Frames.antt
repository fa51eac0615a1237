-- What a call that writes to one medium keeps, whatever becomes of it.
use Rattle.std.specs.Prelude.{◌≡◌, ℕ, Result, OnOk}
use Rattle.vdr_outside.specs.declared.media.Media.{Ghosts as MediaTells}
use Rattle.vdr_outside.specs.Causes.{HasCauseOn}
use Rattle.vdr_outside.specs.Disk.{Durable, Rises, SameBut}

-- The call wrote to medium m alone and read nothing, whether it succeeded or not.
pub record WritesTo {M T E : Type 0} (media : MediaTells M) (m : ℕ) (old new : M) (result : Result T E) : Type 0 where
  -- the other media read as before
  pub others : media.tells → SameBut m (media.disk old).reads (media.disk new).reads
  -- no medium changes its size
  pub sizes : (media.disk new).sizes ≡ (media.disk old).sizes
  -- where images are told, the clock rises
  pub rises : Rises (media.disk old) (media.disk new)
  -- nothing was read
  pub counts : media.bytes_read new ≡ media.bytes_read old
  -- no count of faults falls, and an error comes only where that of this medium rose
  pub cause : HasCauseOn m (media.faults old) (media.faults new) result

-- The same of a call that syncs what it wrote: after Ok a stop leaves medium m as it reads.
pub record WritesThrough {M T E : Type 0} (media : MediaTells M) (m : ℕ) (old new : M) (result : Result T E) : Type 0 where
  -- what each such call keeps
  pub medium : WritesTo media m old new result
  -- after Ok a stop leaves the medium as it reads
  pub durable : OnOk result (Durable m (media.disk new))

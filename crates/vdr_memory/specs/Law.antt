-- What a stop may leave of media in memory, both ways.
use Rattle.std.specs.Prelude.{◌≡◌, ◌↔◌, ℕ, Bool, true, false, List, length}
use Rattle.vdr_outside.specs.Disk.{Image, Overwritten, content}
use Rattle.vdr_memory.specs.Media.{MediaInMemory, Records, disk_of}
use Rattle.vdr_memory.specs.Steps.Step.{write, sync}
use Rattle.vdr_memory.specs.Traces.{Stays}

-- After a write, done or failed, each image that was left is left with any bytes in the range, and no other is.
abbrev pub WritesTear : Type 0
WritesTear = (old next new : MediaInMemory) (m at : ℕ) (bytes : List ℕ) (done : Bool) → Records old next new (write m at bytes done)
    → (i : Image) → (disk_of new).now i ↔ Overwritten m at (length bytes) (disk_of old).now i

-- After a sync each image is left that was left and agrees on the medium with what is read, and no other is.
abbrev pub SyncsMakeLast : Type 0
SyncsMakeLast = (old next new : MediaInMemory) (m : ℕ) → Records old next new (sync m true)
    → (i : Image) → (disk_of new).now i ↔ ((disk_of old).now i × (content i m ≡ content (disk_of old).reads m))

-- After a sync that failed the same images are left as before it, and after a call that is not on the record.
abbrev pub FailedSyncsDoNothing : Type 0
FailedSyncsDoNothing = (old next new : MediaInMemory) (m : ℕ) → Records old next new (sync m false) → (i : Image) → (disk_of new).now i ↔ (disk_of old).now i

abbrev pub LostCallsDoNothing : Type 0
LostCallsDoNothing = (old new : MediaInMemory) → Stays old.trace new.trace → (i : Image) → (disk_of new).now i ↔ (disk_of old).now i

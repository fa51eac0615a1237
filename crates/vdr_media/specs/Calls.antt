-- What `format` tests, what a refusal leaves, and what it keeps, whatever becomes of it.
use Rattle.std.specs.Prelude.{◌≡◌, ℕ, Bool, List, Ok}
use Rattle.vdr_outside.specs.declared.media.Media.{Ghosts as MediaTells}
use Rattle.vdr_outside.specs.Disk.{Disk, Unchanged}
use Rattle.vdr_outside.specs.Moments.{AtEachMoment}
use Rattle.vdr_config.specs.Configuration.{Configuration}
use Rattle.vdr_config.specs.Grammar.{configuration}
use Rattle.vdr_media.specs.Answers.{Answer, FormattedTested, HasFaultCause, IfRefused, IfTextRefused, KnownFormatted, KnownUnformatted, ReadsOneByte, RoomTested, TextTested, room}
use Rattle.vdr_media.specs.Formatted.{SameBeside, members}

-- The answer is that of the three tests, in their order.
pub record IsTested {tells tells_images : Type 0} (result : Answer) (again : Bool) (text : List ℕ) (old new : Disk tells tells_images) : Type 0 where
  -- whether the text is a configuration
  pub config : TextTested result (configuration text)
  -- whether the media are formatted, and may be formatted again
  pub formatted : FormattedTested result again (KnownFormatted old) (KnownUnformatted old) (Unchanged old new)
  -- whether the media have room for what it configures
  pub small : (c : Configuration) → configuration text ≡ Ok c → RoomTested result (room c old.sizes) (Unchanged old new)

-- A refusal leaves the object itself where only the text was looked at, else all that it tells.
pub record LeavesRefused {M : Type 0} (media : MediaTells M) (old new : M) (result : Answer) : Type 0 where
  -- after a refusal of the text the object is as before
  pub unasked : IfTextRefused result (new ≡ old)
  -- after each refusal all that it tells is as before
  pub untouched : IfRefused result (Unchanged (media.disk old) (media.disk new))

-- The call wrote to the first two media alone, and read at most one byte. Other media read and are left by a stop as before.
pub record WritesToMembers {M : Type 0} (media : MediaTells M) (old new : M) (result : Answer) : Type 0 where
  -- other media read as before
  pub others : media.tells → SameBeside members (λ image. image ≡ (media.disk old).reads) (media.disk new).reads
  -- and a stop leaves them as before, at every moment
  pub others_meanwhile : AtEachMoment (media.disk old) (media.disk new) (SameBeside members (media.disk old).now)
  -- no medium changes its size
  pub sizes : (media.disk new).sizes ≡ (media.disk old).sizes
  -- at most byte 0 of medium 0 was read
  pub counts : ReadsOneByte (media.bytes_read old) (media.bytes_read new)
  -- no count of faults falls, and a fault comes only where that of one of the two media rose
  pub cause : HasFaultCause members (media.faults old) (media.faults new) result

-- Where a run may begin, and why it is not begun.
use Rattle.std.specs.Prelude.{◌≡◌, ◌<◌, ◌^◌, ◌⊎◌, ℕ, Bool, true, List, get_or, sum, Any, Result, Err, ⊤}
use Rattle.vdr_outside.specs.Causes.{NoneFalls, Rose}
use Rattle.vdr_media.specs.Formatted.{members}
use Rattle.vdr_core.specs.Histories.{Opening}
use Rattle.vdr_core.specs.Runs.{base_after}
use Rattle.vdr_recorder.specs.declared.run.StartRefused.{StartRefused}
use Rattle.vdr_recorder.specs.declared.run.StartRefused.TheVariants.{Fault}

-- A run may begin: its first place and its base are below 2^62.
pub record MayBegin (opening : Opening) : Type 0 where
  pub place : opening.next_place < 2 ^ 62
  pub base : base_after opening.last < 2 ^ 62

-- No count of faults falls. A fault comes where a write had failed before, and else only where the count of one of the media
-- rose, and so their sum.
pub record HasStartCause (failed : Bool) (before now : List ℕ) (result : Result ⊤ StartRefused) : Type 0 where
  pub later : NoneFalls before now
  pub by_medium : result ≡ Err Fault → (failed ≡ true) ⊎ Any (λ m. Rose (get_or before m 0) (get_or now m 0)) members
  pub in_all : result ≡ Err Fault → (failed ≡ true) ⊎ Rose (sum before) (sum now)

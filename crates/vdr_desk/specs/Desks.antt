-- A desk before and after its worker.
use Rattle.std.specs.Prelude.{◌≡◌, ℕ, false, List, [], length, get_or, Some, ◌≢◌, ◌<◌}
use Rattle.vdr_latch.specs.Passes.{LatchId, Passing}
use Rattle.vdr_outside.specs.declared.link.Link.{Ghosts as LinkTells}
use Rattle.vdr_capture.specs.declared.lane.Cause.{Cause}
use Rattle.vdr_capture.specs.declared.lane.Cause.TheVariants.{Failed}
use Rattle.vdr_desk.specs.declared.desk.Desk.{Desk}
use Rattle.vdr_desk.specs.Answers.{Answer}
use Rattle.vdr_desk.specs.Exchanges.{AreServed, Exchange}
use Rattle.vdr_desk.specs.Links.{Converses}

-- The desk holds a pass of its own, which has seen so much and doesn't lead.
pub record IsReady {L E : Type 0} (latch : LatchId) (seen : List E) (desk : Desk L E) : Type 0 where
  pub pass_is : desk.pass ≡ Some (record { latch = latch; parts = 1; leads = false; seen = seen; own = [] })

-- The worker has ended. What was exchanged stands in the history, behind what its pass had seen before.
pub record HasServed {L E : Type 0} (tells : LinkTells L) (answers begins : Answer E → Type 0) (turns : ℕ) (start : ℕ) (history : List E) (old new : Desk L E) : Type 0 where
  pub exchanges : List Exchange
  pub cause : Cause
  pub told : new.cause ≡ Some cause
  pub conversed : Converses tells turns old.link new.link exchanges cause
  pub answered : AreServed answers begins history (cause ≡ Failed) start exchanges (length history)

-- So, and it holds its pass again, which has seen that history.
pub record Serves {L E : Type 0} (tells : LinkTells L) (answers begins : Answer E → Type 0) (turns : ℕ) (old new : Desk L E) : Type 0 where
  pub before : Passing E
  pub after : Passing E
  pub held : old.pass ≡ Some before
  pub holds : new.pass ≡ Some after
  pub latch : after.latch ≡ before.latch
  pub parts : after.parts ≡ before.parts
  pub leads : after.leads ≡ before.leads
  pub served : HasServed tells answers begins turns (length before.seen) after.seen old new

-- The desk of this number failed, and none before it: the least failure is told.
pub record IsLeastFailed {L E : Type 0} (i : ℕ) (desks : List (Desk L E)) : Type 0 where
  pub within : i < length desks
  pub fails : (d : Desk L E) → (get_or desks i d).cause ≡ Some Failed
  pub least : (k : ℕ) (d : Desk L E) → k < i → (get_or desks k d).cause ≢ Some Failed

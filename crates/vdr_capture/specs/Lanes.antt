-- What is asked of a lane that is captured, and what becomes of it.
use Rattle.std.specs.Prelude.{◌≡◌, ◌≤◌, ℕ, List, [], Option, Some, None, IfSome, get_or}
use Rattle.vdr_terms.specs.Counting.{no_tally}
use Rattle.vdr_intake.specs.Ends.{QueueId, Feeding}
use Rattle.vdr_outside.specs.Causes.{Rose}
use Rattle.vdr_outside.specs.declared.port.Port.{Ghosts as PortTells}
use Rattle.vdr_capture.specs.declared.lane.Cause.{Cause}
use Rattle.vdr_capture.specs.declared.lane.Cause.TheVariants.{Ended, Failed}
use Rattle.vdr_capture.specs.declared.lane.Lane.{Lane}
use Rattle.vdr_capture.specs.Captures.{Telling, IsCapture}
use Rattle.vdr_capture.specs.Gives.{NothingLeft}

-- The lane has counted nothing, and holds the feeder of its group's queue, which has pushed nothing and found it full never.
pub record IsReady {P : Type 0} (queue : QueueId) (lane : Lane P) : Type 0 where
  pub of_group : queue.group ≡ lane.group
  pub feeder : lane.feeder ≡ Some (record { queue = queue; pushed = []; full = 0 })
  pub tally : lane.tally ≡ no_tally

abbrev pub telling_of : {P : Type 0} → PortTells P → P → Telling
telling_of tells port = record { standing = tells.standing port; asked = tells.asked port }

-- The lane's port was captured in at most so many takes, with this queue. The lane holds the feeder again, and the cause.
pub record Captures {P : Type 0} (tells : PortTells P) (turns : ℕ) (queue : QueueId) (old new : Lane P) : Type 0 where
  pub feeder : Feeding
  pub cause : Cause
  pub group_stays : new.group ≡ old.group
  pub holds : new.feeder ≡ Some feeder
  pub of_queue : feeder.queue ≡ queue
  pub told : new.cause ≡ Some cause
  pub captured : IsCapture turns old.group (telling_of tells old.port) (telling_of tells new.port) feeder new.tally cause
  pub faults : tells.faults old.port ≤ tells.faults new.port
  pub failed : cause ≡ Failed → Rose (tells.faults old.port) (tells.faults new.port)
  pub ended : cause ≡ Ended → NothingLeft (tells.standing old.port).left (tells.standing new.port).left

-- Where the lane holds a feeder, the queue of its group is there, and the lane is ready for it.
abbrev pub IsReadyAmong : {P : Type 0} → List (Option QueueId) → Lane P → Type 0
IsReadyAmong queues lane = IfSome lane.feeder (λ feeder. (get_or queues lane.group None ≡ Some feeder.queue) × IsReady feeder.queue lane)

-- A lane that holds a feeder is captured with the feeder's queue, and another stays as it is.
pub record CapturesHeld {P : Type 0} (tells : PortTells P) (turns : ℕ) (old new : Lane P) : Type 0 where
  pub held : (feeder : Feeding) → old.feeder ≡ Some feeder → Captures tells turns feeder.queue old new
  pub without : old.feeder ≡ None → new ≡ old

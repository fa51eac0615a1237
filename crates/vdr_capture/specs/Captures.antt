-- What one capture did.
use Rattle.std.specs.Prelude.{◌≤◌, ℕ, List, length}
use Rattle.vdr_terms.specs.Records.{Item}
use Rattle.vdr_terms.specs.Counting.{Tally}
use Rattle.vdr_intake.specs.Ends.{Feeding}
use Rattle.vdr_outside.specs.Calls.{Asked}
use Rattle.vdr_outside.specs.Takes.{Standing}
use Rattle.vdr_capture.specs.declared.lane.Cause.{Cause}
use Rattle.vdr_capture.specs.Gives.{Gave, EndsBy}
use Rattle.vdr_capture.specs.Items.{HasCaptured}

-- What a port tells besides its faults.
pub record Telling : Type 0 where
  pub standing : Standing
  pub asked : Asked

-- The port gave these items in at most so many takes, all of which but the last gave a datagram or none in their time. Each item
-- was pushed or counted.
pub record IsCapture (turns group : ℕ) (old new : Telling) (feeder : Feeding) (tally : Tally) (cause : Cause) : Type 0 where
  pub given : List Item
  pub others : ℕ
  pub gave : Gave old.standing new.standing given
  pub few : length given ≤ others
  pub ends : EndsBy turns others old.asked new.asked cause
  pub items : HasCaptured group given feeder.pushed feeder.full tally

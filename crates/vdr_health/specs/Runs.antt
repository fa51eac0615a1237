-- How a run fares that began so, and in which these items were taken (this project's profile): all of it is a function of them, but for
-- what is gauged outside.
use Rattle.std.specs.Prelude.{ℕ, List, if◌then◌else◌, Option, None, Some}
use Rattle.vdr_terms.specs.Rates.{is_configured}
use Rattle.vdr_core.specs.Recorder.{recorder_after}
use Rattle.vdr_core.specs.Runs.{RunStart}
use Rattle.vdr_core.specs.Sums.{counted_by, recorded_in}
use Rattle.vdr_core.specs.Taken.{Captured}
use Rattle.vdr_capture.specs.declared.sums.GroupSums.{GroupSums}
use Rattle.vdr_health.specs.declared.gauged.Gauged.{Gauged}
use Rattle.vdr_health.specs.Health.{health_text}
use Rattle.vdr_health.specs.Tallies.{first_utc, tally_of}

-- What became of the items that a group's port gave up to the last one that was taken into the run.
abbrev pub account_of : RunStart → List Captured → ℕ → GroupSums
account_of start popped g =
    let tally = tally_of g popped in
    record {
      taken = tally.taken;
      recorded = recorded_in g (recorder_after start popped).made;
      counts = record tally.missed { rate = (counted_by (recorder_after start popped) g).rate };
    }

-- Only a configured group has one.
abbrev pub account_if : RunStart → List Captured → ℕ → Option GroupSums
account_if start popped g = if is_configured (start.limits g) then Some (account_of start popped g) else None

abbrev pub run_health : RunStart → List Captured → Gauged → List ℕ
run_health start popped gauged = health_text (account_if start popped) (first_utc popped) gauged

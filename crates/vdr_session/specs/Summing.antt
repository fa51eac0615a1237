-- What a session's counters come to.
use Rattle.std.specs.Prelude.{◌≤◌, ◌<◌, ℕ, List, length, Option, Some, None, IfSome}
use Rattle.vdr_terms.specs.Counting.{Tally}
use Rattle.vdr_core.specs.Recorder.{recorder_after}
use Rattle.vdr_core.specs.Runs.{RunStart}
use Rattle.vdr_core.specs.Sums.{counted_by, recorded_in}
use Rattle.vdr_core.specs.Taken.{Captured}
use Rattle.vdr_intake.specs.Ends.{Taking}
use Rattle.vdr_capture.specs.declared.sums.GroupSums.{GroupSums}

-- The sums of a group of which a port's worker and a recorder that took these items have counted so much.
abbrev pub summed : RunStart → List Captured → Tally → ℕ → GroupSums
summed start popped tally g = record {
  taken = tally.taken;
  recorded = recorded_in g (recorder_after start popped).made;
  counts = record tally.totals { rate = (counted_by (recorder_after start popped) g).rate };
}

-- Both, where both are there.
abbrev pub paired : {A B : Type 0} → Option A → Option B → Option (A × B)
paired None b = None
paired (Some a) None = None
paired (Some a) (Some b) = Some (a, b)

-- Where the feeder that was joined has found the queue full, it had pushed as many items as the queue has room for.
abbrev pub KnowsFull : Taking → Type 0
KnowsFull taker = IfSome taker.joined (λ feeder. 0 < feeder.full → taker.queue.capacity ≤ length feeder.pushed)

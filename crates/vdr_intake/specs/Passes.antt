-- What the pass of an end shows, and what each end keeps.
use Rattle.std.specs.Prelude.{◌≡◌, ◌≤◌, ◌<◌, ℕ, true, false, [], length}
use Rattle.crossbeam_queue.specs.Passes.{Pass, view}
use Rattle.vdr_core.specs.Taken.{Captured}
use Rattle.vdr_intake.specs.Ends.{QueueId}
use Rattle.vdr_intake.specs.declared.view.EndView.{EndView}

-- What the end knows.
abbrev pub known : Pass Captured EndView → EndView
known pass = view pass

-- Its queue.
abbrev pub queue_of : Pass Captured EndView → QueueId
queue_of pass = record { table = pass.table_id; group = (known pass).group; capacity = (known pass).capacity }

-- No slot of the queue is out with it.
abbrev pub IsAtRest : Pass Captured EndView → Type 0
IsAtRest pass = pass.me.1 ≡ []

-- Where any push found the queue full, at least as many items as the capacity were pushed.
abbrev pub FillsQueue : ℕ → EndView → Type 0
FillsQueue full v = 0 < full → v.capacity ≤ length v.pushed

-- The feeder may push, and its count is that of pushes at a full queue.
pub record IsFeeder (pass : Pass Captured EndView) (full : ℕ) : Type 0 where
  pub feeds : (known pass).feeds ≡ true
  pub at_rest : IsAtRest pass
  pub counted : FillsQueue full (known pass)

-- The taker may pop, and has no count before the feeder is joined.
pub record IsTaker (pass : Pass Captured EndView) (full : ℕ) : Type 0 where
  pub takes : (known pass).takes ≡ true
  pub at_rest : IsAtRest pass
  pub counted : FillsQueue full (known pass)
  pub alone : (known pass).feeds ≡ false → full ≡ 0

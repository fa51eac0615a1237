-- What a session comes to, by the marks of its turns.
use Rattle.std.specs.Prelude.{◌≡◌, ◌<◌, ◌++◌, ◌⊎◌, ℕ, Bool, true, false, List, [], get_or, length, Option, None}
use Rattle.vdr_core.specs.Taken.{Captured}
use Rattle.vdr_intake.specs.Ends.{QueueId, Taking}
use Rattle.vdr_outside.specs.declared.port.Port.{Ghosts as PortTells}
use Rattle.vdr_outside.specs.declared.link.Link.{Ghosts as LinkTells}
use Rattle.vdr_capture.specs.declared.lane.Lane.{Lane}
use Rattle.vdr_desk.specs.declared.desk.Desk.{Desk}
use Rattle.vdr_desk.specs.Answers.{Answer}
use Rattle.vdr_desk.specs.Desks.{HasServed}
use Rattle.vdr_session.specs.declared.mark.Mark.{Mark}
use Rattle.vdr_session.specs.declared.records.Began.{Began}
use Rattle.vdr_session.specs.declared.records.Began.TheVariants.{Begun, Place, Tick, Fault}
use Rattle.vdr_session.specs.Lanes.{AreDrained, AreMet, ArePopped}
use Rattle.vdr_session.specs.Events.{is_started}
use Rattle.vdr_session.specs.Marks.{has_fault, is_begun, taken_in}
use Rattle.vdr_session.specs.Ran.{LaneRan}

-- The run was begun and the lanes were captured: what was popped is what was taken, and what was lost where a call on the media failed.
pub record RanLanes {P : Type 0} (tells : PortTells P) (turns : ℕ) (configured : ℕ → Bool) (queues : List (Option QueueId)) (takers : List (Option Taking)) (old new : List (Lane P)) (marks : List Mark) : Type 0 where
  pub begun : is_begun marks ≡ true
  pub lanes : (g : ℕ) (d : Lane P) → g < 16 → LaneRan tells turns g (get_or queues g None) (get_or takers g None) (get_or old g d) (get_or new g d)
  pub lost : List Captured
  pub popped : ArePopped (taken_in marks ++ lost) takers
  pub whole : has_fault marks ≡ false → lost ≡ []
  pub drained : has_fault marks ≡ false → AreDrained takers
  pub sixteen : length takers ≡ 16
  pub met : AreMet configured queues takers

-- The run was not begun: nothing was taken, and nothing was captured. Where the start was refused it made no record.
pub record NotBegun {P : Type 0} (began : Began) (before after : List (Option Taking)) (old new : List (Lane P)) (marks : List Mark) : Type 0 where
  pub none : taken_in marks ≡ []
  pub refused : is_begun marks ≡ false
  pub idle : (began ≡ Place) ⊎ (began ≡ Tick) → (is_started marks ≡ false) × (has_fault marks ≡ false)
  pub fails : began ≡ Fault → has_fault marks ≡ true
  pub lanes : new ≡ old
  pub takers : after ≡ before

-- Whether the run was begun, and what came of it.
pub record HasClosed {P : Type 0} (tells : PortTells P) (turns : ℕ) (configured : ℕ → Bool) (queues : List (Option QueueId)) (before after : List (Option Taking)) (old new : List (Lane P)) (began : Began) (marks : List Mark) : Type 0 where
  pub ran : began ≡ Begun → RanLanes tells turns configured queues after old new marks
  pub refused : (began ≡ Begun → ⊥) → NotBegun began before after old new marks

-- The desks were served in a run that was begun, and rested else. What they exchanged stands in the history, each at its own event.
pub record DesksRan {L : Type 0} (tells : LinkTells L) (answers begins : ℕ → Answer Mark → Type 0) (turns : ℕ) (old new : List (Desk L Mark)) (began : Began) (marks : List Mark) : Type 0 where
  pub as_many : length new ≡ length old
  pub served : began ≡ Begun → (i : ℕ) (d : Desk L Mark) → i < length old → HasServed tells (answers i) (begins i) turns 0 marks (get_or old i d) (get_or new i d) × ((get_or new i d).pass ≡ None)
  pub rested : (began ≡ Begun → ⊥) → new ≡ old

-- What goes over a link in several calls.
use Rattle.std.specs.Prelude.{◌≡◌, ◌≢◌, ◌≤◌, ◌<◌, ◌⊎◌, ℕ, List, length, map, nat_lt, if◌then◌else◌, Option, Some, None, Result, OnOk}
use Rattle.std.specs.Io.KnownBytes.{Appends}
use Rattle.vdr_outside.specs.Calls.{Asked, asked_again, ended, failed}
use Rattle.vdr_outside.specs.Causes.{HasCause, Rose}
use Rattle.vdr_outside.specs.Hears.{bare}
use Rattle.vdr_outside.specs.Told.{Stays}
use Rattle.vdr_outside.specs.Writes.{AppendsFront}
use Rattle.vdr_outside.specs.declared.link.Link.{Ghosts as LinkTells}
use Rattle.vdr_capture.specs.Gives.{LosesAll, NothingLeft, asked_often}
use Rattle.vdr_capture.specs.declared.lane.Cause.{Cause}
use Rattle.vdr_capture.specs.declared.lane.Cause.TheVariants.{Ended, Failed, Turns}
use Rattle.vdr_desk.specs.Exchanges.{Exchange, texts_of}

-- A line that was left, as it is heard: without a CR at its end, None where it has more than 256 bytes then.
abbrev pub as_heard : List ℕ → Option (List ℕ)
as_heard line = if nat_lt 256 (length (bare line)) then None else Some (bare line)

-- The lines are the first of those that were left, in order.
pub record HeardAll (old new : Option (List (List ℕ))) (lines : List (Option (List ℕ))) : Type 0 where
  pub whole : List (List ℕ)
  pub are_heard : lines ≡ map as_heard whole
  pub left : LosesAll old new whole

-- It ended by this cause, after so many calls for a line that gave one or none in their time: one more answered that none is left, or
-- failed, or the last reply failed; or all calls were made.
abbrev pub EndsBy : (turns others : ℕ) → Asked → Asked → Cause → Type 0
EndsBy turns others old new Ended = (others < turns) × (new ≡ asked_again (asked_often others old) ended)
EndsBy turns others old new Failed = ((others < turns) × (new ≡ asked_again (asked_often others old) failed)) ⊎ ((others ≤ turns) × (new ≡ asked_often others old))
EndsBy turns others old new Turns = (others ≡ turns) × (new ≡ asked_often others old)

-- The link took these bytes, in one call or in several, and a front of them where the last call failed.
pub record HasReplied {L T F : Type 0} (tells : LinkTells L) (old new : L) (text : List ℕ) (result : Result T F) : Type 0 where
  pub all : OnOk result (Appends (tells.replied old) (tells.replied new) text)
  pub front : AppendsFront (tells.replied old) (tells.replied new) text
  pub left : Stays (tells.left old) (tells.left new)
  pub asked : tells.asked new ≡ tells.asked old
  pub cause : HasCause (tells.faults old) (tells.faults new) result

-- In at most so many calls for a line the link gave these lines, and each was answered, but for the last where a reply to it failed.
pub record Converses {L : Type 0} (tells : LinkTells L) (turns : ℕ) (old new : L) (exchanges : List Exchange) (cause : Cause) : Type 0 where
  pub others : ℕ
  pub heard : HeardAll (tells.left old) (tells.left new) (map (λ x. x.line) exchanges)
  pub few : length exchanges ≤ others
  pub replied : cause ≢ Failed → Appends (tells.replied old) (tells.replied new) (texts_of exchanges)
  pub front : AppendsFront (tells.replied old) (tells.replied new) (texts_of exchanges)
  pub ends : EndsBy turns others (tells.asked old) (tells.asked new) cause
  pub faults : tells.faults old ≤ tells.faults new
  pub fails : cause ≡ Failed → Rose (tells.faults old) (tells.faults new)
  pub nothing_left : cause ≡ Ended → NothingLeft (tells.left old) (tells.left new)

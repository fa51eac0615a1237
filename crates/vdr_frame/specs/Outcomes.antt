-- What a captured packet is, and what contracts see of an answer.
use Rattle.std.specs.Prelude.{◌≤◌, ◌<◌, ℕ, List, length, Result, Ok, Err, ⊤}
use Rattle.std.specs.Borrow.{Bor}
use Rattle.vdr_frame.specs.declared.found.Cause.{Cause}
use Rattle.vdr_frame.specs.declared.found.Found.{Found}
use Rattle.vdr_frame.specs.declared.found.Found.TheVariants as found

-- No datagram to the port of a group, for this cause; one that is captured in part; or one that is captured whole, with its payload.
pub data Outcome : Type 0 where
  Left : (cause : Cause) → Outcome
  Cut : (group : ℕ) → Outcome
  Whole : (group : ℕ) (payload : List ℕ) → Outcome

abbrev pub outcome_of : Found → Outcome
outcome_of (found.Left cause) = Left cause
outcome_of (found.Cut group) = Cut group
outcome_of (found.Whole group payload) = Whole group payload.now

-- the bytes behind a header, or why there are none
abbrev pub bytes_of : Result (Bor (List ℕ)) Cause → Result (List ℕ) Cause
bytes_of (Ok bytes) = Ok bytes.now
bytes_of (Err cause) = Err cause

-- A group is one of the sixteen, and of a payload there are at most 1,473 bytes.
abbrev pub IsItem : Outcome → Type 0
IsItem (Left cause) = ⊤
IsItem (Cut group) = group < 16
IsItem (Whole group payload) = (group < 16) × (length payload ≤ 1473)

-- Where the events of a session come from: whose orders they are, and in which a call on the media failed (this project's profile).
use Rattle.std.specs.Prelude.{◌≡◌, ◌≤◌, ◌+◌, ◌-◌, ◌^◌, ℕ, suc, Bool, true, false, List, [], ◌∷◌, length, get_or, map, min, cond, Option, Some, None}
use Rattle.vdr_core.specs.Histories.{Event, Opening}
use Rattle.vdr_config.specs.Configuration.{Selector}
use Rattle.vdr_desk.specs.Answers.{Answer, IsBegun}
use Rattle.vdr_reply.specs.Answers.{IsAnswer}
use Rattle.vdr_reply.specs.Plays.{IsWaiting}
use Rattle.vdr_session.specs.declared.mark.Mark.{Mark}
use Rattle.vdr_session.specs.Marks.{misses}

-- The number of the desk whose order the event is, or a further turn of its answer, and whether a call on the media failed in it and it changed
-- nothing.
pub record Origin : Type 0 where
  pub desk : Option ℕ
  pub failed : Bool

abbrev pub origin_of : Mark → Origin
origin_of m = record { desk = m.desk; failed = misses m.did }

abbrev pub origins_of : List Mark → List Origin
origins_of marks = map origin_of marks

-- That of the event at this place of the history. Behind the turns of a session stands the close of its run.
abbrev pub origin_at : List Origin → ℕ → Origin
origin_at origins place = get_or origins place (record { desk = None; failed = false })

-- In how many of them a call failed.
unfoldable pub failures_in : List Origin → ℕ
failures_in [] = 0
failures_in (o ∷ origins) = cond o.failed (suc (failures_in origins)) (failures_in origins)

-- A count of faults rose by so many or more. One that is at the greatest u64 stays there.
abbrev pub RoseBy : ℕ → ℕ → ℕ → Type 0
RoseBy failures before now = min (before + failures) (2 ^ 64 - 1) ≤ now

module _ (channels : List Selector) (origins : List Origin) (desk : ℕ) (opening : Opening) (a : Answer Event) where
  -- Its own event is an order of this desk, and its text is a function of the events before that. It may be cut short where a call on the media
  -- failed in its last turn.
  pub record IsAnswerOf : Type 0 where
    pub asked : (origin_at origins (length a.before)).desk ≡ Some desk
    pub answer : IsAnswer channels ((origin_at origins (length a.before + length a.during)).failed ≡ true) opening a

  -- So far it is such an answer, of which something is left.
  pub record IsBegunOf : Type 0 where
    pub asked : (origin_at origins (length a.before)).desk ≡ Some desk
    pub waits : IsBegun (IsWaiting channels opening) a

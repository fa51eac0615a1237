-- What a session comes to at its desks (this project's profile): each line that a link gave is answered once and in order; one that asks for an
-- order is one event of the session's history, and its reply is a function of the history before that.
use Rattle.std.specs.Prelude.{◌≡◌, ◌≢◌, ◌<◌, ◌⊎◌, ℕ, false, List, [], length, get_or, Some, None, ⊤}
use Rattle.vdr_core.specs.Histories.{Event, Opening}
use Rattle.vdr_outside.specs.declared.link.Link.{Ghosts as LinkTells}
use Rattle.vdr_config.specs.Configuration.{Selector}
use Rattle.vdr_capture.specs.declared.lane.Cause.{Cause}
use Rattle.vdr_capture.specs.declared.lane.Cause.TheVariants.{Failed}
use Rattle.vdr_capture.specs.declared.lane.Lane.{Lane}
use Rattle.vdr_capture.specs.declared.sums.Outcome.{Outcome}
use Rattle.vdr_capture.specs.declared.sums.Outcome.TheVariants.{Done, NoMemory, Place, Tick, MediaFault, PortFault, LinkFault}
use Rattle.vdr_desk.specs.declared.desk.Desk.{Desk}
use Rattle.vdr_desk.specs.Desks.{IsLeastFailed as IsLeastFailedDesk}
use Rattle.vdr_desk.specs.Exchanges.{AreServed, Exchange}
use Rattle.vdr_desk.specs.Links.{Converses}
use Rattle.vdr_session.specs.declared.mark.Mark.{Mark}
use Rattle.vdr_session.specs.Origins.{IsAnswerOf, IsBegunOf, Origin, RoseBy, failures_in}
use Rattle.vdr_session.specs.Sessions.{IsLeastFailed, is_closed}

module _ {L : Type 0} where
  -- The link was asked for lines, which were answered so.
  pub record HasConversed (tells : LinkTells L) (turns : ℕ) (old new : Desk L Mark) (exchanges : List Exchange) : Type 0 where
    pub cause : Cause
    pub told : new.cause ≡ Some cause
    pub conversed : Converses tells turns old.link new.link exchanges cause

  -- The link was asked for nothing.
  pub record HasRested (old new : Desk L Mark) (exchanges : List Exchange) : Type 0 where
    pub none : exchanges ≡ []
    pub same : new.link ≡ old.link
    pub idle : new.cause ≡ None

  -- In a run that was closed each link was asked for lines.
  abbrev pub HasSpoken : LinkTells L → ℕ → Outcome → (old new : Desk L Mark) → List Exchange → Type 0
  HasSpoken tells turns outcome old new exchanges = HasConversed tells turns old new exchanges ⊎ ((is_closed outcome ≡ false) × HasRested old new exchanges)

  -- What was answered at the desk of this number stands in the history: each order is one event of its own there, at rising places, and its
  -- reply is judged by the events before that. Where the link failed, the last reply may be only begun.
  pub record DeskReplied (tells : LinkTells L) (turns : ℕ) (channels : List Selector) (origins : List Origin) (number : ℕ) (outcome : Outcome) (opening : Opening) (events : List Event) (old new : Desk L Mark) : Type 0 where
    pub exchanges : List Exchange
    pub spoken : HasSpoken tells turns outcome old new exchanges
    pub answered : AreServed (IsAnswerOf channels origins number opening) (IsBegunOf channels origins number opening) events (new.cause ≡ Some Failed) 0 exchanges (length events)

  -- So it is at each desk. No event is an order of two desks, and for each event in which a call failed the media's count of faults rose.
  pub record DesksReplied (tells : LinkTells L) (turns : ℕ) (channels : List Selector) (faults_before faults_after : ℕ) (outcome : Outcome) (old new : List (Desk L Mark)) (opening : Opening) (events : List Event) : Type 0 where
    pub origins : List Origin
    pub failures : RoseBy (failures_in origins) faults_before faults_after
    pub each : (i : ℕ) (d : Desk L Mark) → i < length old → DeskReplied tells turns channels origins i outcome opening events (get_or old i d) (get_or new i d)

  -- What is told of the desks of any media.
  pub record DesksTold (tells : LinkTells L) (turns : ℕ) (outcome : Outcome) (old new : List (Desk L Mark)) : Type 0 where
    pub as_many : length new ≡ length old
    pub each : (i : ℕ) (d : Desk L Mark) → i < length old → (exchanges : List Exchange) × HasSpoken tells turns outcome (get_or old i d) (get_or new i d) exchanges

abbrev pub NoneFailed : {P : Type 0} → List (Lane P) → Type 0
NoneFailed {P} lanes = (g : ℕ) (d : Lane P) → g < 16 → (get_or lanes g d).cause ≢ Some Failed

-- Which failure is told: that of the least port, and else that of the least link. A fault of the media comes before both.
abbrev pub FailureTold : {P L : Type 0} → Outcome → List (Lane P) → List (Desk L Mark) → Type 0
FailureTold {P} {L} Done lanes desks = NoneFailed lanes × ((i : ℕ) (d : Desk L Mark) → i < length desks → (get_or desks i d).cause ≢ Some Failed)
FailureTold {P} {L} NoMemory lanes desks = ⊤
FailureTold {P} {L} Place lanes desks = ⊤
FailureTold {P} {L} Tick lanes desks = ⊤
FailureTold {P} {L} MediaFault lanes desks = ⊤
FailureTold {P} {L} (PortFault g) lanes desks = IsLeastFailed g lanes
FailureTold {P} {L} (LinkFault i) lanes desks = NoneFailed lanes × IsLeastFailedDesk i desks

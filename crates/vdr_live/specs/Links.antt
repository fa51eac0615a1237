-- The links of a recording, by what they tell before and after it, and what was answered over them (this project's profile).
use Rattle.std.specs.Prelude.{◌≡◌, ◌≢◌, ◌<◌, ◌⊎◌, ℕ, Bool, true, false, List, [], map, length, get_or, Option, Some, None, ⊤}
use Rattle.vdr_core.specs.Histories.{Event, Opening}
use Rattle.vdr_outside.specs.Calls.{Asked}
use Rattle.vdr_outside.specs.Causes.{Rose}
use Rattle.vdr_outside.specs.declared.link.Link.{Ghosts as LinkTells}
use Rattle.vdr_config.specs.Configuration.{Selector}
use Rattle.vdr_capture.specs.declared.lane.Cause.{Cause}
use Rattle.vdr_capture.specs.declared.lane.Cause.TheVariants.{Failed}
use Rattle.vdr_capture.specs.declared.sums.Outcome.{Outcome}
use Rattle.vdr_capture.specs.declared.sums.Outcome.TheVariants.{Done, NoMemory, Place, Tick, MediaFault, PortFault, LinkFault}
use Rattle.vdr_desk.specs.declared.desk.Desk.{Desk}
use Rattle.vdr_desk.specs.Exchanges.{AreServed, Exchange}
use Rattle.vdr_desk.specs.Links.{Converses}
use Rattle.vdr_session.specs.declared.mark.Mark.{Mark}
use Rattle.vdr_session.specs.Origins.{IsAnswerOf, IsBegunOf, Origin, RoseBy, failures_in}
use Rattle.vdr_session.specs.Sessions.{is_closed}

-- A link: the lines left and the bytes replied, where it tells them, how often it was asked for a line, and how often it failed.
pub record LinkSeen : Type 0 where
  pub left : Option (List (List ℕ))
  pub replied : Option (List ℕ)
  pub asked : Asked
  pub faults : ℕ

abbrev pub seen_link : {L : Type 0} → LinkTells L → L → LinkSeen
seen_link tells link = record { left = tells.left link; replied = tells.replied link; asked = tells.asked link; faults = tells.faults link }

-- The links of these desks, in their order.
abbrev pub seen_links : {L : Type 0} → LinkTells L → List (Desk L Mark) → List LinkSeen
seen_links tells desks = map (λ desk. seen_link tells desk.link) desks

-- What is seen of a link tells that of itself.
abbrev pub as_seen : LinkTells LinkSeen
as_seen = record { left = λ link. link.left; replied = λ link. link.replied; asked = λ link. link.asked; faults = λ link. link.faults }

-- The link was asked for lines in at most so many calls, which ended by this cause, and was answered so.
abbrev pub WasAnswered : (turns : ℕ) → (old new : LinkSeen) → Option Cause → List Exchange → Type 0
WasAnswered turns old new cause exchanges = (c : Cause) × (cause ≡ Some c) × Converses as_seen turns old new exchanges c

-- A link is asked for lines in a run that is closed. In another run it may rest.
abbrev pub LinkIn : (turns : ℕ) (closed : Bool) (old new : LinkSeen) → Option Cause → List Exchange → Type 0
LinkIn turns true old new cause exchanges = WasAnswered turns old new cause exchanges
LinkIn turns false old new cause exchanges = WasAnswered turns old new cause exchanges ⊎ ((new ≡ old) × (cause ≡ None) × (exchanges ≡ []))

-- A failure is told where the run was closed and no port failed, that of the least link where several links failed.
abbrev pub TellsLinkFailure : Outcome → (count : ℕ) → (ℕ → Option Cause) → Type 0
TellsLinkFailure Done count causes = (i : ℕ) → i < count → causes i ≢ Some Failed
TellsLinkFailure NoMemory count causes = ⊤
TellsLinkFailure Place count causes = ⊤
TellsLinkFailure Tick count causes = ⊤
TellsLinkFailure MediaFault count causes = ⊤
TellsLinkFailure (PortFault g) count causes = ⊤
TellsLinkFailure (LinkFault k) count causes = (k < count) × (causes k ≡ Some Failed) × ((i : ℕ) → i < k → causes i ≢ Some Failed)

-- What was answered over each link, whatever the media tell, and which failure is told.
pub record AsksLinks (turns : ℕ) (old new : List LinkSeen) (outcome : Outcome) : Type 0 where
  pub as_many : length new ≡ length old
  pub causes : ℕ → Option Cause
  pub each : (i : ℕ) (d : LinkSeen) → i < length old → (exchanges : List Exchange) × LinkIn turns (is_closed outcome) (get_or old i d) (get_or new i d) (causes i) exchanges
  pub failure : TellsLinkFailure outcome (length old) causes

-- What was answered over the link of this number stands in the history: each order is one event of its own there, at rising places, and its
-- reply is a function of the events before that. A play goes on in further events. It may be cut short where a call on the media failed in the
-- last of these, or where what was left of it is not retained any more. Where the link failed the last reply may be only begun.
pub record IsReplied (turns : ℕ) (channels : List Selector) (origins : List Origin) (number : ℕ) (outcome : Outcome) (opening : Opening) (events : List Event) (old new : LinkSeen) : Type 0 where
  pub cause : Option Cause
  pub exchanges : List Exchange
  pub spoken : LinkIn turns (is_closed outcome) old new cause exchanges
  pub answered : AreServed (IsAnswerOf channels origins number opening) (IsBegunOf channels origins number opening) events (cause ≡ Some Failed) 0 exchanges (length events)

-- So it is over each link. No event is an order of two links, and the media's count of faults rose for each event in which a call failed.
pub record AreReplied (turns : ℕ) (channels : List Selector) (faults_old faults_new : ℕ) (outcome : Outcome) (opening : Opening) (events : List Event) (old new : List LinkSeen) : Type 0 where
  pub origins : List Origin
  pub failures : RoseBy (failures_in origins) faults_old faults_new
  pub each : (i : ℕ) (d : LinkSeen) → i < length old → IsReplied turns channels origins i outcome opening events (get_or old i d) (get_or new i d)

-- No link failed in between.
abbrev pub NoLinkFailed : (old new : List LinkSeen) → Type 0
NoLinkFailed old new = (i : ℕ) → i < length old → ((d : LinkSeen) → Rose (get_or old i d).faults (get_or new i d).faults) → ⊥

-- The ports of a recording, by what they tell before and after it (this project's profile).
use Rattle.std.specs.Prelude.{◌≡◌, ◌≢◌, ◌≤◌, ◌<◌, ℕ, Bool, true, false, List, [], map, length, get_or, Option, Some, None, ⊤}
use Rattle.vdr_terms.specs.declared.rate.Rate.{Rate}
use Rattle.vdr_terms.specs.Records.{Item}
use Rattle.vdr_outside.specs.Calls.{Asked}
use Rattle.vdr_outside.specs.Causes.{Rose}
use Rattle.vdr_outside.specs.Takes.{Standing}
use Rattle.vdr_outside.specs.declared.port.Port.{Ghosts as PortTells}
use Rattle.vdr_capture.specs.Gives.{EndsBy, Gave, NothingLeft}
use Rattle.vdr_capture.specs.declared.lane.Cause.{Cause}
use Rattle.vdr_capture.specs.declared.lane.Cause.TheVariants.{Ended, Failed}
use Rattle.vdr_capture.specs.declared.lane.Lane.{Lane}
use Rattle.vdr_capture.specs.declared.sums.Outcome.{Outcome}
use Rattle.vdr_capture.specs.declared.sums.Outcome.TheVariants.{Done, NoMemory, Place, Tick, MediaFault, PortFault, LinkFault}

-- A port: the datagrams that it gave and those left, where it tells them, how often it was asked, and how often it failed.
pub record PortSeen : Type 0 where
  pub standing : Standing
  pub asked : Asked
  pub faults : ℕ

abbrev pub seen_port : {P : Type 0} → PortTells P → Lane P → PortSeen
seen_port tells lane = record { standing = tells.standing lane.port; asked = tells.asked lane.port; faults = tells.faults lane.port }

-- The ports of these lanes, each at the number of its transmission group.
abbrev pub seen_ports : {P : Type 0} → PortTells P → List (Lane P) → List PortSeen
seen_ports tells lanes = map (seen_port tells) lanes

-- The port was asked in at most so many takes, which ended by this cause, and gave these items.
pub record WasAsked (turns : ℕ) (old new : PortSeen) (cause : Cause) (given : List Item) : Type 0 where
  pub gave : Gave old.standing new.standing given
  pub others : ℕ  -- the takes that gave a datagram, or none in their time
  pub few : length given ≤ others
  pub ends : EndsBy turns others old.asked new.asked cause
  pub later : old.faults ≤ new.faults
  pub failed : cause ≡ Failed → Rose old.faults new.faults
  pub ended : cause ≡ Ended → NothingLeft old.standing.left new.standing.left

-- A port is asked where a run was begun and its group is configured.
abbrev pub PortIn : (turns : ℕ) (began : Bool) → Option Rate → (old new : PortSeen) → Option Cause → List Item → Type 0
PortIn turns began None old new cause given = (new ≡ old) × (given ≡ []) × (cause ≡ None)
PortIn turns true (Some rate) old new cause given = (c : Cause) × (cause ≡ Some c) × WasAsked turns old new c given
PortIn turns false (Some rate) old new cause given = (new ≡ old) × (given ≡ [])

-- A failure is told where the run was closed, that of the least group where several ports failed, and that of a link only where none did.
abbrev pub TellsFailure : Outcome → (ℕ → Option Cause) → Type 0
TellsFailure Done causes = (g : ℕ) → g < 16 → causes g ≢ Some Failed
TellsFailure NoMemory causes = ⊤
TellsFailure Place causes = ⊤
TellsFailure Tick causes = ⊤
TellsFailure MediaFault causes = ⊤
TellsFailure (PortFault k) causes = (k < 16) × (causes k ≡ Some Failed) × ((g : ℕ) → g < k → causes g ≢ Some Failed)
TellsFailure (LinkFault i) causes = (g : ℕ) → g < 16 → causes g ≢ Some Failed

-- What each port gave, and which failure is told.
pub record AsksPorts (turns : ℕ) (began : Bool) (rates : List (Option Rate)) (old new : List PortSeen) (outcome : Outcome) (given : ℕ → List Item) : Type 0 where
  pub causes : ℕ → Option Cause
  pub each : (g : ℕ) (d : PortSeen) → g < 16 → PortIn turns began (get_or rates g None) (get_or old g d) (get_or new g d) (causes g) (given g)
  pub failure : TellsFailure outcome causes

-- No port failed in between.
abbrev pub NoPortFailed : (old new : List PortSeen) → Type 0
NoPortFailed old new = (g : ℕ) → g < 16 → ((d : PortSeen) → Rose (get_or old g d).faults (get_or new g d).faults) → ⊥

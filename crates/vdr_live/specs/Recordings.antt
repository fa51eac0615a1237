-- What `record TURNS` answers, what it takes from the ports and replies over the links, and what it leaves of the media (this project's profile).
use Rattle.std.specs.Prelude.{◌≡◌, ◌≢◌, ◌≤◌, ◌<◌, ◌^◌, ◌⊎◌, ◌∷◌, ℕ, Bool, true, List, [], String, map, string_bytes, codes, decimal, length, get_or, sum, Option, Result, Ok, Err, ⊤}
use Rattle.std.specs.declared.alloc.Global.{Global}
use Rattle.vdr_terms.specs.declared.rate.Rate.{Rate}
use Rattle.vdr_terms.specs.Records.{Item}
use Rattle.vdr_core.specs.Runs.{base_after}
use Rattle.vdr_durability.specs.Readings.{EndsMeet}
use Rattle.vdr_outside.specs.Causes.{Rose}
use Rattle.vdr_outside.specs.Disk.{Image, SameBut}
use Rattle.vdr_media.specs.Formatted.{IsFormatted, IsUnformatted}
use Rattle.vdr_opening.specs.Media.{members_with, Contents, HoldsContents, opening_of, reading_of}
use Rattle.vdr_opening.specs.Refusals.{IsRefused}
use Rattle.vdr_opening.specs.declared.refused.OpenRefused.{OpenRefused}
use Rattle.vdr_vault.specs.Calls.{SameElsewhere}
use Rattle.vdr_capture.specs.declared.sums.Outcome.{Outcome}
use Rattle.vdr_capture.specs.declared.sums.Outcome.TheVariants as outcomes
use Rattle.vdr_session.specs.Sessions.{HasGroups, IsUnbegun, OutcomeMeans, is_closed}
use Rattle.vdr_session.specs.declared.session.SessionEnd.{SessionEnd}
use Rattle.vdr_command.specs.Endings.{IsDone}
use Rattle.vdr_command.specs.Opened.{AddsMissing, IsOpenableWith, MediaEnds, WasRecorded}
use Rattle.vdr_command.specs.Statuses.{status_of_opening}
use Rattle.vdr_command.specs.Outside.{MediaFailed, MediaSeen, NothingFailed, OutputFailed, OutputSeen, Outside, Prints, PrintsFront, Writes}
use Rattle.vdr_tool.specs.Summaries.{summary_text}
use Rattle.vdr_command.specs.declared.status.Status.{Status}
use Rattle.vdr_command.specs.declared.status.Status.TheVariants.{Done, Unformatted, Damaged, MediaFault, PortFault, LinkFault, OutputFault, NoMemory, Place, Tick}
use Rattle.vdr_recorder.specs.Refusals.{MayBegin}
use Rattle.vdr_recorder.specs.Watched.{Watched}
use Rattle.vdr_live.specs.Headline.{SessionHeadline}
use Rattle.vdr_live.specs.Links.{AsksLinks, LinkSeen, NoLinkFailed}
use Rattle.vdr_live.specs.Ports.{AsksPorts, NoPortFailed, PortSeen}

-- The most takes of a port, and calls of a link for a line, in a run.
abbrev pub most_turns : ℕ
most_turns = 1_000_000_000_000

-- The texts are those of `record TURNS`.
pub record SpellsRecord (texts : List (List ℕ)) (turns : ℕ) : Type 0 where
  pub words : texts ≡ codes "record" ∷ decimal turns ∷ []
  pub least : 1 ≤ turns
  pub most : turns ≤ most_turns

abbrev pub AsksRecord : List (String Global) → ℕ → Type 0
AsksRecord words turns = SpellsRecord (map string_bytes words) turns

-- All that stands outside of the program, with the ports and the links.
pub record Surroundings (tells tells_images : Type 0) : Type 1 where
  pub alone : Outside tells tells_images
  pub ports : List PortSeen
  pub links : List LinkSeen

-- How a session ends the command, and the summary of a run that was closed.
abbrev pub PrintsSession : Outcome → (summary : List ℕ) → Status → (old new : OutputSeen) → Type 0
PrintsSession outcomes.Done summary status old new =
    ((status ≡ Done) × Prints summary old new) ⊎ ((status ≡ OutputFault) × OutputFailed old new × PrintsFront summary old new)
-- the status is decided, and stands where the output fails
PrintsSession (outcomes.PortFault g) summary status old new = (status ≡ PortFault g) × Writes summary old new
PrintsSession (outcomes.LinkFault i) summary status old new = (status ≡ LinkFault i) × Writes summary old new
-- of a run that was not closed there is no summary
PrintsSession outcomes.NoMemory summary status old new = (status ≡ NoMemory) × (new ≡ old)
PrintsSession outcomes.Place summary status old new = (status ≡ Place) × (new ≡ old)
PrintsSession outcomes.Tick summary status old new = (status ≡ Tick) × (new ≡ old)
PrintsSession outcomes.MediaFault summary status old new = (status ≡ MediaFault) × (new ≡ old)

-- Status and output tell how the recording ended.
abbrev pub TellsSession : Result SessionEnd OpenRefused → Status → (old new : OutputSeen) → Type 0
TellsSession (Ok end) status old new = PrintsSession end.outcome (summary_text end.groups end.records) status old new
TellsSession (Err refused) status old new = (status ≡ status_of_opening refused) × (new ≡ old)

-- These are the rates of the groups, and a run is refused, or begins, by what opening read, sound or not.
pub record Decides (rates : List (Option Rate)) (outcome : Outcome) (x : Contents) : Type 0 where
  pub rates_are : x.config.groups ≡ rates
  pub begins : OutcomeMeans (opening_of x) outcome

module _ {tells tells_images : Type 0} (turns : ℕ) (ports_old ports_new : List PortSeen) (links_old links_new : List LinkSeen) (old new : MediaSeen tells tells_images) (hears : Type 0) (w : Watched) where
  -- The media were opened, and a session recorded what the ports gave and answered what the links asked for.
  pub record IsRecorded (end : SessionEnd) : Type 0 where
    pub rates : List (Option Rate)
    pub began : Bool
    pub given : ℕ → List Item
    -- only the ports of configured groups are asked, and only in a run that was begun
    pub runs : is_closed end.outcome ≡ true → began ≡ true
    pub ports : end.outcome ≢ outcomes.NoMemory → AsksPorts turns began rates ports_old ports_new end.outcome given
    pub unasked : IsUnbegun end.outcome → ports_new ≡ ports_old
    pub groups : HasGroups rates end
    -- what was answered over each link, and its failure
    pub links : AsksLinks turns links_old links_new end.outcome
    -- one history of what the ports gave, whole and at every moment, and in it the orders of the links
    pub recorded : (x : Contents) → tells → HoldsContents old.disk.reads x → WasRecorded x
        → SessionHeadline x (sum old.faults) (sum new.faults) given turns links_old links_new end old.disk new.disk hears w
    -- each refusal of the run comes only in its case, and it writes no more than the batch that the long-term medium lacks
    pub openable : tells → IsOpenableWith old.disk.reads (Decides rates end.outcome)
    pub beside : IsUnbegun end.outcome → tells → SameBut 1 old.disk.reads new.disk.reads
    pub missing : IsUnbegun end.outcome → AddsMissing old.disk new.disk
    pub others : tells → SameElsewhere (members_with 0) old.disk.reads new.disk.reads
    pub fault : end.outcome ≡ outcomes.MediaFault → MediaFailed old new

  -- Opening was refused, or failed: no port and no link was asked, and nothing was recorded.
  pub record IsNotOpened (refused : OpenRefused) : Type 0 where
    pub unasked : ports_new ≡ ports_old
    pub unspoken : links_new ≡ links_old
    pub media : MediaEnds (λ x. ⊤) (λ m offset. ⊥) (λ events. events ≡ []) old new (status_of_opening refused)

  abbrev pub RecordingEnds : Result SessionEnd OpenRefused → Type 0
  RecordingEnds (Ok end) = IsRecorded end
  RecordingEnds (Err refused) = IsNotOpened refused

-- What is recorded is done, and what may not be recorded is refused by its own refusal, or there was no memory.
pub record RecordsAll (image : Image) (status : Status) : Type 0 where
  pub unformatted : IsUnformatted image → (status ≡ Unformatted) ⊎ (status ≡ NoMemory)
  pub damaged : IsFormatted image → (m offset : ℕ) → IsRefused image m offset → (status ≡ Damaged m offset) ⊎ (status ≡ NoMemory)
  pub place : (x : Contents) → HoldsContents image x → EndsMeet (members_with x.further) (reading_of x)
      → 2 ^ 62 ≤ (opening_of x).next_place → (status ≡ Place) ⊎ (status ≡ NoMemory)
  pub tick : (x : Contents) → HoldsContents image x → EndsMeet (members_with x.further) (reading_of x)
      → (opening_of x).next_place < 2 ^ 62 → 2 ^ 62 ≤ base_after (opening_of x).last → (status ≡ Tick) ⊎ (status ≡ NoMemory)
  pub done : (x : Contents) → HoldsContents image x → EndsMeet (members_with x.further) (reading_of x) → MayBegin (opening_of x) → IsDone status

-- The port of this group failed.
abbrev pub IfPortFault : Status → (ℕ → Type 0) → Type 0
IfPortFault (PortFault g) P = P g
IfPortFault status P = ⊤

-- The link of this number failed.
abbrev pub IfLinkFault : Status → (ℕ → Type 0) → Type 0
IfLinkFault (LinkFault i) P = P i
IfLinkFault status P = ⊤

-- What `record TURNS` owes. `w`: what an object was told meanwhile, where it `hears` anything.
pub record Records {tells tells_images : Type 0} (turns : ℕ) (old new : Surroundings tells tells_images) (hears : Type 0) (w : Watched) (status : Status) : Type 0 where
  -- how the recording ended, as status and output tell it
  pub answer : Result SessionEnd OpenRefused
  pub told : TellsSession answer status old.alone.output new.alone.output
  -- the ports, the links and the media, and what is said of them
  pub ends : RecordingEnds turns old.ports new.ports old.links new.links old.alone.media new.alone.media hears w answer
  -- each failure comes only with its cause
  pub output : status ≡ OutputFault → OutputFailed old.alone.output new.alone.output
  pub media : status ≡ MediaFault → MediaFailed old.alone.media new.alone.media
  pub port : IfPortFault status (λ g. (g < 16) × ((d : PortSeen) → Rose (get_or old.ports g d).faults (get_or new.ports g d).faults))
  pub link : IfLinkFault status (λ i. (i < length old.links) × ((d : LinkSeen) → Rose (get_or old.links i d).faults (get_or new.links i d).faults))
  -- nothing else comes in the place of the recording, or of a refusal, but want of memory
  pub complete : NothingFailed old.alone new.alone → NoPortFailed old.ports new.ports → NoLinkFailed old.links new.links → tells → RecordsAll old.alone.media.disk.reads status

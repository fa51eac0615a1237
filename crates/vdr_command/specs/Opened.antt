-- What is said of every command that opens recorded media: how opening is refused, and what the media keep (this project's profile).
use Rattle.std.specs.Prelude.{◌≡◌, ◌≤◌, ◌⊎◌, ◌∷◌, ℕ, ℤ, List, [], length, All, option_map, Option, Some, None, ⊤}
use Rattle.vdr_core.specs.Histories.{Act, Event}
use Rattle.vdr_core.specs.Histories.Act.{Look}
use Rattle.vdr_durability.specs.Readings.{EndsMeet}
use Rattle.vdr_outside.specs.Disk.{Disk, Image, SameBut}
use Rattle.vdr_media.specs.Formatted.{IsFormatted, IsUnformatted}
use Rattle.vdr_opening.specs.Media.{members_with, Contents, HoldsContents, HoldsParts, opening_of, parts_of, reading_of}
use Rattle.vdr_opening.specs.Refusals.{IsRefused}
use Rattle.vdr_vault.specs.Openings.{LeavesAll, WritesMissing}
use Rattle.vdr_vault.specs.Regularity.{AreSound}
use Rattle.vdr_vault.specs.Vaults.{IsDamagedOn, of_stamp}
use Rattle.vdr_recorder.specs.Headline.{PlaysBack, RecordingHeadline}
use Rattle.vdr_command.specs.Endings.{IsWorkDone}
use Rattle.vdr_command.specs.Outside.{MediaFailed, MediaSeen, OutputSeen, Prints, PrintsFront}
use Rattle.vdr_command.specs.declared.status.Status.{Status}
use Rattle.vdr_command.specs.declared.status.Status.TheVariants.{Done, Unformatted, Damaged, MediaFault, OutputFault, NoMemory, NoIncident}

-- What is said of a part of a medium that is not legal, and of an incident that is not live.
abbrev pub IfDamaged : Status → (ℕ → ℕ → Type 0) → Type 0
IfDamaged (Damaged m offset) P = P m offset
IfDamaged status P = ⊤

abbrev pub IfNoIncident : Status → (ℕ → Type 0) → Type 0
IfNoIncident (NoIncident id) P = P id
IfNoIncident status P = ⊤

-- Opening may have ended before its syncs had succeeded.
abbrev pub IsUnopened : Status → Type 0
IsUnopened Unformatted = ⊤
IsUnopened (Damaged m offset) = ⊤
IsUnopened MediaFault = ⊤
IsUnopened status = ⊥

-- The work was not begun: it was refused, or there was no memory.
abbrev pub IsUnbegun : Status → Type 0
IsUnbegun Done = ⊥
IsUnbegun OutputFault = ⊥
IsUnbegun MediaFault = ⊥
IsUnbegun status = ⊤

-- The output grew by the text, or by a front of it where the output failed.
abbrev pub PrintsText : List ℕ → Status → (old new : OutputSeen) → Type 0
PrintsText text Done old new = Prints text old new
PrintsText text OutputFault old new = PrintsFront text old new
PrintsText text status old new = ⊤

-- The media hold what a recorder left of them: the premise of each promise that speaks of what was recorded.
abbrev pub WasRecorded : Contents → Type 0
WasRecorded x = AreSound x

-- What opening reads of the image is legal, the ends of its media meet, and P holds of what was read.
abbrev pub IsOpenableWith : Image → (Contents → Type 0) → Type 0
IsOpenableWith image P = IsFormatted image × (x : Contents) × HoldsParts image x × EndsMeet (members_with x.further) (reading_of x) × P x

-- Tick and utc of the last record of these contents.
abbrev pub newest_of : Contents → Option (ℕ × ℤ)
newest_of x = option_map of_stamp (opening_of x).last

-- At most one event, and it changes nothing.
pub record AreLooks (events : List Event) : Type 0 where
  pub few : length events ≤ 1
  pub looks : All (λ e. e.act ≡ Look) events

-- One event alone, of this act and at this moment; it has none where it met a fault.
pub record IsOneEvent (Does : Act → Type 0) (moment : Option ℕ) (events : List Event) : Type 0 where
  pub event : Event
  pub is : events ≡ event ∷ []
  pub does : Does event.act
  pub moment_is : event.moment ≡ moment

-- The events of a command that is to do an act, by its status and the media's clock at its end. Where the work was done the act is
-- acknowledged; where the media failed it may be pending; in every other case there is none.
abbrev pub MayLeave : (Does : Act → Type 0) → (clock : ℕ) → Status → List Event → Type 0
MayLeave Does clock Done events = IsOneEvent Does (Some clock) events
MayLeave Does clock OutputFault events = IsOneEvent Does (Some clock) events
MayLeave Does clock MediaFault events = AreLooks events ⊎ IsOneEvent Does None events
MayLeave Does clock status events = AreLooks events

module _ {tells tells_images : Type 0} where
  -- Nothing was written: a stop leaves what it might have left before, and the media read as before.
  pub record IsUntouched (old new : Disk tells tells_images) : Type 0 where
    pub leaves : LeavesAll old new
    pub reads : tells → new.reads ≡ old.reads

  -- Opening refused this part of the media, and wrote nothing.
  abbrev pub IsRefusedAt : Disk tells tells_images → Disk tells tells_images → (m offset : ℕ) → Type 0
  IsRefusedAt old new m offset = IsUntouched old new × (tells → IsFormatted old.reads × IsRefused old.reads m offset)

  -- Media that can be opened were answered as damaged nevertheless: a slot of the long-term medium is not intact there, as it reads at the
  -- exit, or, at offset 0, not all that the command needs is on it. The media are not legible, or what they hold is not sound.
  abbrev pub MetUnsound : (old new : Disk tells tells_images) → (Can : Contents → Type 0) → (m offset : ℕ) → Type 0
  MetUnsound old new Can m offset =
      tells → IsOpenableWith old.reads (λ x. Can x × (m ≡ 1) × ((offset ≡ 0) ⊎ IsDamagedOn x.config new m offset)) × ((x : Contents) → HoldsContents old.reads x → WasRecorded x → ⊥)

  -- At most the batch that the long-term medium lacks is written, and where both media end with the last one nothing is, whether
  -- they are sound or not.
  abbrev pub AddsMissing : (old new : Disk tells tells_images) → Type 0
  AddsMissing old new = (x : Contents) → tells → HoldsContents old.reads x → WritesMissing x old new

  -- What is said of the events that a command leaves: they are such ones, and where the work was done, what the media then read as plays
  -- back all of it.
  pub record ContentsKept (x : Contents) (MayBe : List Event → Type 0) (status : Status) (after : Disk tells tells_images) (events : List Event) : Type 0 where
    pub may_be : MayBe events
    pub reads : IsWorkDone status → tells → PlaysBack (opening_of x) events after.reads

  -- Media that held these contents keep them by some events: since entry a stop left what it might have left at entry, or media that
  -- play back what was held or what the events make of it; and from the moment at which opening's syncs had succeeded the media keep
  -- the events. Which of them may be pending, `MayBe` says.
  abbrev pub KeepsContents : (x : Contents) (MayBe : List Event → Type 0) → Status → (before after : Disk tells tells_images) → Type 0
  KeepsContents x MayBe status before after = RecordingHeadline x (ContentsKept x MayBe status after) ⊤ before after

  -- What is said where media are opened for work that can be done on contents of which Can holds, by what they read as at entry.
  -- Met is what else may be answered as damage.
  pub record MediaEnds (Can : Contents → Type 0) (Met : (m offset : ℕ) → Type 0) (MayBe : List Event → Type 0) (old new : MediaSeen tells tells_images) (status : Status) : Type 0 where
    -- each refusal comes only in its case
    pub unformatted : status ≡ Unformatted → IsUntouched old.disk new.disk × (tells → IsUnformatted old.disk.reads)
    pub damaged : IfDamaged status (λ m offset. IsRefusedAt old.disk new.disk m offset ⊎ Met m offset)
    pub fault : status ≡ MediaFault → MediaFailed old new
    pub openable : IsWorkDone status → tells → IsOpenableWith old.disk.reads Can
    -- nothing but the long-term medium is written
    pub others : tells → SameBut 1 old.disk.reads new.disk.reads
    -- what was recorded stays, on each medium and at every moment
    pub blank : tells → IsUnformatted old.disk.reads → LeavesAll old.disk new.disk
    pub kept : (x : Contents) → tells → HoldsContents old.disk.reads x → EndsMeet (members_with x.further) (reading_of x) → WasRecorded x
        → (IsUnopened status × LeavesAll old.disk new.disk) ⊎ KeepsContents x MayBe status old.disk new.disk

-- Media that can't be opened are refused by their own refusal, or there was no memory.
pub record RefusesAll (image : Image) (status : Status) : Type 0 where
  pub unformatted : IsUnformatted image → (status ≡ Unformatted) ⊎ (status ≡ NoMemory)
  pub damaged : IsFormatted image → (m offset : ℕ) → IsRefused image m offset → (status ≡ Damaged m offset) ⊎ (status ≡ NoMemory)

-- What opening reads of media, and how it refuses them, has one answer. Of legible media it reads so much of what they hold, and that
-- ends as they do.
pub record OneAnswer (image : Image) : Type 0 where
  -- what is read is one
  pub config : (x y : Contents) → HoldsParts image x → HoldsParts image y → x.config ≡ y.config
  pub known : (x y : Contents) → HoldsParts image x → HoldsParts image y → x.placed 0 ≡ y.placed 0
  pub table : (x y : Contents) → HoldsParts image x → HoldsParts image y → x.table ≡ y.table
  -- so much is read of legible media
  pub parts : (x : Contents) → HoldsContents image x → HoldsParts image (parts_of x)
  -- and a run begins on it as it does on all that they hold
  pub last : (x : Contents) → HoldsContents image x → (opening_of (parts_of x)).last ≡ (opening_of x).last
  pub place : (x : Contents) → HoldsContents image x → (opening_of (parts_of x)).next_place ≡ (opening_of x).next_place
  -- what they hold is one
  pub placed : (x y : Contents) → HoldsContents image x → HoldsContents image y → x.placed 0 ≡ y.placed 0
  pub formatted : (x : Contents) → HoldsContents image x → IsUnformatted image → ⊥
  -- what can be opened is not refused, and so what is legible is not
  pub opens : (x : Contents) (m offset : ℕ) → HoldsParts image x → EndsMeet (members_with x.further) (reading_of x) → IsRefused image m offset → ⊥
  pub either : (x : Contents) (m offset : ℕ) → HoldsContents image x → EndsMeet (members_with x.further) (reading_of x) → IsRefused image m offset → ⊥
  pub one : (m offset k other : ℕ) → IsRefused image m offset → IsRefused image k other → (m ≡ k) × (offset ≡ other)

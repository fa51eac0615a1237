-- What `incidents` prints and answers (this project's profile; IMO MSC.333(90) asks that the record of an incident be kept).
use Rattle.std.specs.Prelude.{◌≡◌, ◌⊎◌, ◌∷◌, [], codes, ⊤}
use Rattle.vdr_durability.specs.Readings.{EndsMeet}
use Rattle.vdr_outside.specs.Disk.{Image}
use Rattle.vdr_opening.specs.Costs.{ReadsToOpen}
use Rattle.vdr_opening.specs.Media.{members_with, Contents, HoldsContents, HoldsParts, reading_of}
use Rattle.vdr_teller.specs.Incidents.{incidents_text}
use Rattle.vdr_command.specs.Endings.{IsDone, IsWorkDone}
use Rattle.vdr_command.specs.Opened.{AddsMissing, AreLooks, MediaEnds, PrintsText, RefusesAll}
use Rattle.vdr_command.specs.Outside.{MediaSeen, NothingFailed, OutputFailed, Outside}
use Rattle.vdr_command.specs.Promises.{Promise}
use Rattle.vdr_command.specs.declared.status.Status.{Status}
use Rattle.vdr_command.specs.declared.status.Status.TheVariants.{Done, Unformatted, Damaged, MediaFault, OutputFault, NoMemory}

-- The command ends so, and in no other way.
abbrev pub IsListStatus : Status → Type 0
IsListStatus Done = ⊤
IsListStatus Unformatted = ⊤
IsListStatus (Damaged m offset) = ⊤
IsListStatus MediaFault = ⊤
IsListStatus OutputFault = ⊤
IsListStatus NoMemory = ⊤
IsListStatus status = ⊥

-- Any media that can be opened are listed.
abbrev pub CanList : Contents → Type 0
CanList x = ⊤

-- What is legible is listed, and what can't be opened is refused by its own refusal, or there was no memory.
pub record ListsAll (image : Image) (status : Status) : Type 0 where
  pub refused : RefusesAll image status
  pub done : (x : Contents) → HoldsContents image x → EndsMeet (members_with x.further) (reading_of x) → IsDone status

-- Where the work was done, no more was read of the media than opening reads.
abbrev pub HasOnlyOpened : {tells tells_images : Type 0} → (old new : MediaSeen tells tells_images) → Status → Type 0
HasOnlyOpened {tells} old new status =
    IsWorkDone status → (x : Contents) → tells → HoldsParts old.disk.reads x → ReadsToOpen x old.disk.sizes old.bytes_read new.bytes_read

-- What `incidents` owes.
pub record Lists {tells tells_images : Type 0} (old new : Outside tells tells_images) (status : Status) : Type 0 where
  pub own : IsListStatus status
  -- the live saves are printed
  pub printed : (x : Contents) → tells → HoldsContents old.media.disk.reads x → PrintsText (incidents_text x.table) status old.output new.output
  -- each failure comes only with its cause
  pub output : status ≡ OutputFault → OutputFailed old.output new.output
  pub silent : IsWorkDone status ⊎ (new.output ≡ old.output)
  -- the media, and what is said of them
  pub media : MediaEnds CanList (λ m offset. ⊥) AreLooks old.media new.media status
  pub missing : AddsMissing old.media.disk new.media.disk
  -- no more is read than opening reads
  pub bytes : HasOnlyOpened old.media new.media status
  -- nothing else comes in the place of the list, or of a refusal, but want of memory
  pub complete : NothingFailed old new → tells → ListsAll old.media.disk.reads status

abbrev pub listing : Promise
listing = record {
  words = λ texts. texts ≡ codes "incidents" ∷ [];
  legal = ⊤;
  reads_input = ⊥;
  uses_media = ⊤;
  owes = λ old new hears w status. Lists old new status;
}

-- `save LABEL`: an incident is saved, and its id is printed (this project's profile; IMO MSC.333(90) asks that the record of an incident
-- be kept).
use Rattle.std.specs.Prelude.{◌≡◌, ◌⊎◌, ◌∷◌, ℕ, ℤ, suc, List, [], ◌++◌, codes, decimal, is_none, position, option_map, Option, Some, None, ⊤}
use Rattle.vdr_core.specs.Histories.{Act, Incident}
use Rattle.vdr_core.specs.Histories.Act.{Save as Saving}
use Rattle.vdr_durability.specs.Readings.{EndsMeet}
use Rattle.vdr_outside.specs.Disk.{Image}
use Rattle.vdr_terms.specs.Texts.{is_label}
use Rattle.vdr_opening.specs.Media.{members_with, Contents, HoldsContents, reading_of}
use Rattle.vdr_vault.specs.Saves.{refusal_from}
use Rattle.vdr_vault.specs.declared.refused.SaveRefused.{SaveRefused as Refused}
use Rattle.vdr_vault.specs.declared.refused.SaveRefused.TheVariants as saves
use Rattle.vdr_recorder.specs.Watched.{IsToldOnce, Watched}
use Rattle.vdr_recorder.specs.Watched.PlainTurn.{Save as ASave}
use Rattle.vdr_command.specs.Endings.{IsDone, IsWorkDone}
use Rattle.vdr_command.specs.Opened.{AddsMissing, IsOpenableWith, IsUnbegun, MayLeave, MediaEnds, MetUnsound, PrintsText, RefusesAll, WasRecorded, newest_of}
use Rattle.vdr_command.specs.Outside.{NothingFailed, OutputFailed, Outside}
use Rattle.vdr_command.specs.Promises.{Promise}
use Rattle.vdr_command.specs.declared.status.SaveCause.{SaveCause}
use Rattle.vdr_command.specs.declared.status.SaveCause.TheVariants.{Label, Nothing, TableFull}
use Rattle.vdr_command.specs.declared.status.Status.{Status}
use Rattle.vdr_command.specs.declared.status.Status.TheVariants.{Done, Unformatted, Damaged, MediaFault, OutputFault, NoMemory, SaveRefused}

-- The command ends so, and in no other way.
abbrev pub IsSaveStatus : Status → Type 0
IsSaveStatus Done = ⊤
IsSaveStatus Unformatted = ⊤
IsSaveStatus (Damaged m offset) = ⊤
IsSaveStatus MediaFault = ⊤
IsSaveStatus OutputFault = ⊤
IsSaveStatus NoMemory = ⊤
IsSaveStatus (SaveRefused cause) = ⊤
IsSaveStatus status = ⊥

-- What is said of a save that is refused.
abbrev pub IfSaveRefused : Status → (SaveCause → Type 0) → Type 0
IfSaveRefused (SaveRefused cause) P = P cause
IfSaveRefused status P = ⊤

-- The cause that a refusal tells, None where it is another.
abbrev pub cause_of : Refused → Option SaveCause
cause_of saves.Label = Some Label
cause_of saves.Nothing = Some Nothing
cause_of saves.TableFull = Some TableFull
cause_of (saves.Damaged m offset) = None
cause_of saves.Fault = None

abbrev pub cause_if : Option Refused → Option SaveCause
cause_if None = None
cause_if (Some refused) = cause_of refused

-- Why nothing is saved where the last record has this tick and utc, None where nothing stands in the way: the label is none, nothing
-- is recorded, no slot is free, in this order.
abbrev pub save_cause : (label : List ℕ) → (newest : Option (ℕ × ℤ)) → List (Option Incident) → Option SaveCause
save_cause label newest table = cause_if (refusal_from (is_label label) newest (position is_none table))

-- A save under this label is judged so.
abbrev pub IsJudged : (label : List ℕ) → Option SaveCause → Contents → Type 0
IsJudged label cause x = save_cause label (newest_of x) x.table ≡ cause

-- Nothing stands in the way of the save.
abbrev pub CanSave : List ℕ → Contents → Type 0
CanSave label x = IsJudged label None x

-- The act saves under this label. Its id and its places are those that a history gives a save.
abbrev pub SavesAs : List ℕ → Act → Type 0
SavesAs label act = (id : ℕ) × (a : ℕ) × (b : ℕ) × (act ≡ Saving id label a b)

abbrev pub id_line : Option ℕ → List ℕ
id_line None = []
id_line (Some id) = decimal id ++ codes "\n"

-- The id of a save: the least that is free.
abbrev pub save_text : List (Option Incident) → List ℕ
save_text table = id_line (option_map suc (position is_none table))

-- What can be saved is, and what can't is refused by its own refusal, or there was no memory.
pub record SavesAll (label : List ℕ) (image : Image) (status : Status) : Type 0 where
  pub refused : RefusesAll image status
  pub cause : (x : Contents) (cause : SaveCause) → HoldsContents image x → EndsMeet (members_with x.further) (reading_of x) → IsJudged label (Some cause) x
      → (status ≡ SaveRefused cause) ⊎ (status ≡ NoMemory)
  pub done : (x : Contents) → HoldsContents image x → EndsMeet (members_with x.further) (reading_of x) → WasRecorded x → CanSave label x → IsDone status

-- What `save` owes. `w`: what an object was told meanwhile, where it `hears` anything.
pub record Saves {tells tells_images : Type 0} (label : List ℕ) (old new : Outside tells tells_images) (hears : Type 0) (w : Watched) (status : Status) : Type 0 where
  pub own : IsSaveStatus status
  -- the id is printed
  pub printed : (x : Contents) → tells → HoldsContents old.media.disk.reads x → PrintsText (save_text x.table) status old.output new.output
  -- each refusal and failure comes only with its cause
  pub refused : IfSaveRefused status (λ cause. tells → IsOpenableWith old.media.disk.reads (IsJudged label (Some cause)))
  pub output : status ≡ OutputFault → OutputFailed old.output new.output
  pub silent : IsWorkDone status ⊎ (new.output ≡ old.output)
  -- the media, and what is said of them
  pub media : MediaEnds (CanSave label) (MetUnsound old.media.disk new.media.disk (CanSave label)) (MayLeave (SavesAs label) new.media.disk.clock status) old.media new.media status
  pub missing : IsUnbegun status → AddsMissing old.media.disk new.media.disk
  -- where the work was done, an object outside was told of the save once all images showed it
  pub heard : IsWorkDone status → hears → IsToldOnce old.media.disk new.media.disk (ASave label) w
  -- nothing else comes in the place of the save, or of a refusal, but want of memory
  pub complete : NothingFailed old new → tells → SavesAll label old.media.disk.reads status

abbrev pub saving : (label : List ℕ) → Promise
saving label = record {
  -- any word may be a label: what it holds is judged by the save
  words = λ texts. texts ≡ codes "save" ∷ label ∷ [];
  legal = ⊤;
  reads_input = ⊥;
  uses_media = ⊤;
  owes = λ old new hears w status. Saves label old new hears w status;
}

-- What a command prints and answers that tells all records of a medium or of an incident, one after another (this project's profile).
use Rattle.std.specs.Prelude.{◌≡◌, ◌⊎◌, ◌∷◌, ℕ, List, [], ⊤}
use Rattle.vdr_terms.specs.Records.{Record}
use Rattle.vdr_entry.specs.declared.query.Medium.{Medium}
use Rattle.vdr_control.specs.Plays.{IsMedium, medium_word}
use Rattle.vdr_opening.specs.Media.{Contents, HoldsContents}
use Rattle.vdr_visit.specs.Prints.{text_of, whole_text}
use Rattle.vdr_command.specs.Endings.{IsWorkDone}
use Rattle.vdr_command.specs.Opened.{AddsMissing, PrintsText}
use Rattle.vdr_command.specs.Outside.{NothingFailed, OutputFailed, Outside, Prints}
use Rattle.vdr_command.specs.Promises.{Promise}
use Rattle.vdr_command.specs.declared.status.Status.{Status}
use Rattle.vdr_command.specs.declared.status.Status.TheVariants.{NoChannel, OutputFault}
use Rattle.vdr_readout.specs.Plays.{IsPlayStatus}
use Rattle.vdr_readout.specs.Reads.{AreFirst, CanBeRead, HasReadFew, PlayEnds, PlaysAll, all_records, records_asked}
use Rattle.vdr_readout.specs.Sources.{whole_of}
use Rattle.vdr_readout.specs.Watches.{IsCutShort}

-- What is owed by a command that prints a line of a record behind those before it, and last lines behind all.
pub record TellsLines {tells tells_images : Type 0} (line : List Record → Record → List ℕ) (last : List Record → List ℕ) (medium : Medium)
    (old new : Outside tells tells_images) (status : Status) : Type 0 where
  pub own : IsPlayStatus status
  pub no_channel : status ≡ NoChannel → ⊥
  -- what the records that the media hold show is printed
  pub printed : (x : Contents) → tells → HoldsContents old.media.disk.reads x → CanBeRead x
      → PrintsText (whole_text line last (records_asked x (whole_of medium))) status old.output new.output
  -- where it is cut off, what the first records show stands before the line of the status, and nothing else
  pub cut : IsCutShort status → (first : List Record) × Prints (text_of line first) old.output new.output × AreFirst (whole_of medium) old.media.disk first
  -- each failure comes only with its cause
  pub output : status ≡ OutputFault → OutputFailed old.output new.output
  -- unless records were read nothing is printed
  pub silent : IsWorkDone status ⊎ (IsCutShort status ⊎ Prints [] old.output new.output)
  -- the media, and what is said of them, are as for a play of all records
  pub media : PlayEnds (whole_of medium) old.media new.media status
  pub missing : AddsMissing old.media.disk new.media.disk
  -- of media that can be read no more is read than what opening reads and the segments that meet the query
  pub bytes : HasReadFew (whole_of medium) old.media new.media status
  -- nothing else comes in the place of the text, or of a refusal, but want of memory
  pub complete : NothingFailed old new → tells → PlaysAll medium all_records old.media.disk.reads status

-- Its page: a word and the medium's.
abbrev pub telling : (word : List ℕ) (line : List Record → Record → List ℕ) (last : List Record → List ℕ) → Medium → Promise
telling word line last medium = record {
  words = λ texts. texts ≡ word ∷ medium_word medium ∷ [];
  legal = IsMedium medium;
  reads_input = ⊥;
  uses_media = ⊤;
  owes = λ old new hears w status. TellsLines line last medium old new status;
}

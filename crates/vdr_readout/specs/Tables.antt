-- What a command owes that reads records out and prints a table of them behind the last.
use Rattle.std.specs.Prelude.{◌≡◌, ◌⊎◌, ℕ, List, []}
use Rattle.vdr_terms.specs.Records.{Record}
use Rattle.vdr_opening.specs.Media.{Contents, HoldsContents}
use Rattle.vdr_command.specs.Endings.{IsWorkDone}
use Rattle.vdr_command.specs.Opened.{AddsMissing, PrintsText}
use Rattle.vdr_command.specs.Outside.{NothingFailed, OutputFailed, Outside, Prints}
use Rattle.vdr_command.specs.declared.status.Status.{Status}
use Rattle.vdr_command.specs.declared.status.Status.TheVariants.{NoChannel, OutputFault}
use Rattle.vdr_readout.specs.Plays.{IsPlayStatus}
use Rattle.vdr_readout.specs.Reads.{AskedPlay, CanBeRead, HasReadFew, PlayEnds, PlaysAll, records_asked}

-- All records are asked for, of whatever channel, and `text` is the text of their table.
pub record TellsTable {tells tells_images : Type 0} (asked : AskedPlay) (text : List Record → List ℕ) (old new : Outside tells tells_images) (status : Status) : Type 0 where
  pub own : IsPlayStatus status
  pub no_channel : status ≡ NoChannel → ⊥
  -- the table of what the media hold is printed
  pub printed : (x : Contents) → tells → HoldsContents old.media.disk.reads x → CanBeRead x → PrintsText (text (records_asked x asked)) status old.output new.output
  -- each failure comes only with its cause
  pub output : status ≡ OutputFault → OutputFailed old.output new.output
  -- unless the work is done nothing is printed
  pub silent : IsWorkDone status ⊎ Prints [] old.output new.output
  -- the media, and what is said of them, are as for a play of these records
  pub media : PlayEnds asked old.media new.media status
  pub missing : AddsMissing old.media.disk new.media.disk
  -- of media that can be read no more is read than what opening reads and the segments that meet the query
  pub bytes : HasReadFew asked old.media new.media status
  -- nothing else comes in the place of the table, or of a refusal, but want of memory
  pub complete : NothingFailed old new → tells → PlaysAll asked.medium asked.channel old.media.disk.reads status

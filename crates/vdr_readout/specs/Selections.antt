-- What a command prints and answers that tells the selected records, one after another: the table of their values, and the track of a source (this
-- project's profile).
use Rattle.std.specs.Prelude.{◌≡◌, ◌⊎◌, ◌∷◌, ℕ, true, List, [], codes, ⊤}
use Rattle.vdr_terms.specs.Records.{Record}
use Rattle.vdr_tag.specs.Values.{is_identifier}
use Rattle.vdr_control.specs.Orders.PlainOrder.{Play as PlayOrder}
use Rattle.vdr_control.specs.Plays.{SpellsPlay}
use Rattle.vdr_opening.specs.Media.{Contents, HoldsContents}
use Rattle.vdr_visit.specs.Prints.{text_of, whole_text}
use Rattle.vdr_rows.specs.Tables.{last_lines as table_last, line_at as table_line}
use Rattle.vdr_track.specs.Texts.{last_lines as track_last, line_at as track_line}
use Rattle.vdr_command.specs.Endings.{IsWorkDone}
use Rattle.vdr_command.specs.Opened.{AddsMissing, PrintsText}
use Rattle.vdr_command.specs.Outside.{NothingFailed, OutputFailed, Outside, Prints, Writes}
use Rattle.vdr_command.specs.Promises.{Promise}
use Rattle.vdr_command.specs.StatusLine.{channel_line}
use Rattle.vdr_command.specs.declared.status.Status.{Status}
use Rattle.vdr_command.specs.declared.status.Status.TheVariants.{NoChannel, OutputFault}
use Rattle.vdr_readout.specs.Plays.{IsPlayStatus}
use Rattle.vdr_readout.specs.Reads.{AreFirst, AskedPlay, CanBeRead, HasReadFew, PlayEnds, PlaysAll, records_asked}
use Rattle.vdr_readout.specs.Watches.{IsCutShort}

-- What is owed by a command that prints a line of a selected record behind those before it, and last lines behind all.
pub record TellsSelected {tells tells_images : Type 0} (line : List Record → Record → List ℕ) (last : List Record → List ℕ) (asked : AskedPlay)
    (old new : Outside tells tells_images) (status : Status) : Type 0 where
  pub own : IsPlayStatus status
  -- the text of exactly the records that a play selects of what the media hold is printed
  pub printed : (x : Contents) → tells → HoldsContents old.media.disk.reads x → CanBeRead x
      → PrintsText (whole_text line last (records_asked x asked)) status old.output new.output
  -- where it is cut off, what is told of the first records stands before the line of the status, and nothing else
  pub cut : IsCutShort status → (first : List Record) × Prints (text_of line first) old.output new.output × AreFirst asked old.media.disk first
  -- each refusal and failure comes only with its cause
  pub output : status ≡ OutputFault → OutputFailed old.output new.output
  pub channel : status ≡ NoChannel → Writes (channel_line asked.channel) old.output new.output
  -- unless records were read nothing is printed
  pub silent : IsWorkDone status ⊎ ((status ≡ NoChannel) ⊎ (IsCutShort status ⊎ Prints [] old.output new.output))
  -- the media, and what is said of them, are as for a play of these records
  pub media : PlayEnds asked old.media new.media status
  pub missing : AddsMissing old.media.disk new.media.disk
  -- of media that can be read no more is read than what opening reads and the segments that meet the query
  pub bytes : HasReadFew asked old.media new.media status
  -- nothing else comes in the place of the text, or of a refusal, but want of memory
  pub complete : NothingFailed old new → tells → PlaysAll asked.medium asked.channel old.media.disk.reads status

-- `values`, and its words: those of a play.
pub record AreValueWords (texts : List (List ℕ)) (asked : AskedPlay) : Type 0 where
  pub medium : List ℕ
  pub channel : List ℕ
  pub from : List ℕ
  pub to : List ℕ
  pub words : texts ≡ codes "values" ∷ medium ∷ channel ∷ from ∷ to ∷ []
  pub spelled : SpellsPlay medium channel from to (PlayOrder asked.medium asked.channel asked.from asked.to)

-- What `values` owes: the table of the values that the records say.
abbrev pub TellsValues : {tells tells_images : Type 0} → AskedPlay → (old new : Outside tells tells_images) → Status → Type 0
TellsValues asked old new status = TellsSelected table_line table_last asked old new status

abbrev pub tabling : AskedPlay → Promise
tabling asked = record {
  words = λ texts. AreValueWords texts asked;
  legal = ⊤;
  reads_input = ⊥;
  uses_media = ⊤;
  owes = λ old new hears w status. TellsValues asked old new status;
}

-- `track`, and its words: the medium, the source, and the bounds of the stamps. It is of all records.
pub record AreTrackWords (texts : List (List ℕ)) (asked : AskedPlay) (source : List ℕ) : Type 0 where
  pub medium : List ℕ
  pub from : List ℕ
  pub to : List ℕ
  pub words : texts ≡ codes "track" ∷ medium ∷ source ∷ from ∷ to ∷ []
  pub spelled : SpellsPlay medium (codes "all") from to (PlayOrder asked.medium asked.channel asked.from asked.to)

-- What `track` owes: the track of the source.
abbrev pub TellsTrack : {tells tells_images : Type 0} → AskedPlay → (source : List ℕ) → (old new : Outside tells tells_images) → Status → Type 0
TellsTrack asked source old new status = TellsSelected (track_line source) (track_last source) asked old new status

-- The source is 1 to 15 bytes of 0x21 to 0x7E.
abbrev pub tracking : AskedPlay → (source : List ℕ) → Promise
tracking asked source = record {
  words = λ texts. AreTrackWords texts asked source;
  legal = is_identifier source ≡ true;
  reads_input = ⊥;
  uses_media = ⊤;
  owes = λ old new hears w status. TellsTrack asked source old new status;
}

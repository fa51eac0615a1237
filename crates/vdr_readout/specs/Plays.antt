-- What `play` answers, and what it leaves of the media (this project's profile).
use Rattle.std.specs.Prelude.{◌≡◌, ◌⊎◌, ◌∷◌, List, ℕ, [], codes, ⊤}
use Rattle.vdr_terms.specs.Records.{Record}
use Rattle.vdr_opening.specs.Media.{Contents, HoldsContents}
use Rattle.vdr_play.specs.Streams.{nothing_seen}
use Rattle.vdr_play.specs.Texts.{records_text}
use Rattle.vdr_control.specs.Orders.PlainOrder.{Play as PlayOrder}
use Rattle.vdr_control.specs.Plays.{SpellsPlay}
use Rattle.vdr_command.specs.Endings.{IsWorkDone}
use Rattle.vdr_command.specs.Opened.{AddsMissing, PrintsText}
use Rattle.vdr_command.specs.Outside.{NothingFailed, OutputFailed, Outside, Prints, Writes}
use Rattle.vdr_command.specs.Promises.{Promise}
use Rattle.vdr_command.specs.StatusLine.{IsNoChannel, channel_line}
use Rattle.vdr_command.specs.declared.status.Status.{Status}
use Rattle.vdr_command.specs.declared.status.Status.TheVariants.{Done, Unformatted, Damaged, MediaFault, OutputFault, NoMemory, NoChannel, NoIncident}
use Rattle.vdr_readout.specs.Reads.{AreFirst, AskedPlay, CanBeRead, HasReadFew, PlayEnds, PlaysAll, records_asked}

-- What is printed of media with these contents.
abbrev pub play_text : Contents → AskedPlay → List ℕ
play_text x asked = records_text nothing_seen (records_asked x asked)

-- A play ends so, and in no other way.
abbrev pub IsPlayStatus : Status → Type 0
IsPlayStatus Done = ⊤
IsPlayStatus Unformatted = ⊤
IsPlayStatus (Damaged m offset) = ⊤
IsPlayStatus MediaFault = ⊤
IsPlayStatus OutputFault = ⊤
IsPlayStatus NoMemory = ⊤
IsPlayStatus NoChannel = ⊤
IsPlayStatus (NoIncident id) = ⊤
IsPlayStatus status = ⊥

-- Reading was cut off: it failed, or a record was not legal.
abbrev pub IsCut : Status → Type 0
IsCut MediaFault = ⊤
IsCut (Damaged m offset) = ⊤
IsCut status = ⊥

-- `play`, and its words: the medium, the channel, and the bounds of the stamps.
pub record ArePlayWords (texts : List (List ℕ)) (asked : AskedPlay) : Type 0 where
  pub medium : List ℕ
  pub channel : List ℕ
  pub from : List ℕ
  pub to : List ℕ
  pub words : texts ≡ codes "play" ∷ medium ∷ channel ∷ from ∷ to ∷ []
  pub spelled : SpellsPlay medium channel from to (PlayOrder asked.medium asked.channel asked.from asked.to)

-- What `play` owes.
pub record Plays {tells tells_images : Type 0} (asked : AskedPlay) (old new : Outside tells tells_images) (status : Status) : Type 0 where
  pub own : IsPlayStatus status
  -- what is selected of what the media hold is printed
  pub printed : (x : Contents) → tells → HoldsContents old.media.disk.reads x → CanBeRead x
      → PrintsText (play_text x asked) status old.output new.output
  -- where reading fails, or a record is not legal, the lines of the first records stand before the line of the status, and nothing else
  pub cut : IsCut status → (first : List Record) × Prints (records_text nothing_seen first) old.output new.output × AreFirst asked old.media.disk first
  -- each refusal and failure comes only with its cause
  pub output : status ≡ OutputFault → OutputFailed old.output new.output
  pub line : status ≡ NoChannel → Writes (channel_line asked.channel) old.output new.output
  pub silent : IsWorkDone status ⊎ (IsNoChannel status ⊎ (IsCut status ⊎ (new.output ≡ old.output)))
  -- the media, and what is said of them
  pub media : PlayEnds asked old.media new.media status
  pub missing : AddsMissing old.media.disk new.media.disk
  -- of media that can be read no more is read than what opening reads and the segments that meet the query
  pub bytes : HasReadFew asked old.media new.media status
  -- nothing else comes in the place of a play, or of a refusal, but want of memory
  pub complete : NothingFailed old new → tells → PlaysAll asked.medium asked.channel old.media.disk.reads status

abbrev pub playing : AskedPlay → Promise
playing asked = record {
  words = λ texts. ArePlayWords texts asked;
  legal = ⊤;
  reads_input = ⊥;
  uses_media = ⊤;
  owes = λ old new hears w status. Plays asked old new status;
}

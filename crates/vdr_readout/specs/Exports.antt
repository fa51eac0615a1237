-- What `wav`, `picture` and `pictures` write and answer: a file out of what was recorded, or why there is none (this project's profile).
use Rattle.std.specs.Prelude.{◌≡◌, ◌⊎◌, ◌∷◌, ◌<◌, ◌^◌, ℕ, true, List, [], codes, decimal, Option, Some, None, Result, Ok, Err, ⊤}
use Rattle.vdr_core.specs.Histories.{live}
use Rattle.vdr_durability.specs.Readings.{EndsMeet}
use Rattle.vdr_outside.specs.Disk.{Image}
use Rattle.vdr_image.specs.Headers.{is_identifier}
use Rattle.vdr_config.specs.Configuration.{Configuration}
use Rattle.vdr_entry.specs.declared.query.Medium.TheVariants.{Incident}
use Rattle.vdr_export.specs.Answers.{file_of}
use Rattle.vdr_export.specs.declared.block.Block.{Block}
use Rattle.vdr_export.specs.declared.file.File.{File}
use Rattle.vdr_export.specs.declared.refused.ExportRefused.{ExportRefused}
use Rattle.vdr_export.specs.declared.refused.ExportRefused.TheVariants as exports
use Rattle.vdr_export.specs.Wishes.{kind_at, timed_from, wished}
use Rattle.vdr_export.specs.declared.timing.Timing.TheVariants.{Numbered}
use Rattle.vdr_export.specs.declared.wish.Wish.{Wish}
use Rattle.vdr_export.specs.declared.wish.Wish.TheVariants.{Sound, Picture, Listing}
use Rattle.vdr_opening.specs.Media.{members_with, Contents, HoldsContents, reading_of}
use Rattle.vdr_control.specs.Orders.PlainOrder.{Play as PlayOrder}
use Rattle.vdr_control.specs.Plays.{SpellsPlay}
use Rattle.vdr_command.specs.Endings.{IsDone}
use Rattle.vdr_command.specs.Opened.{AddsMissing, IfDamaged, IsOpenableWith, IsRefusedAt, PrintsText, RefusesAll}
use Rattle.vdr_command.specs.Outside.{NothingFailed, OutputFailed, OutputSeen, Outside, PrintsFront, Writes}
use Rattle.vdr_command.specs.Promises.{Promise}
use Rattle.vdr_command.specs.StatusLine.{IsNoChannel, channel_line}
use Rattle.vdr_command.specs.declared.status.Status.{Status}
use Rattle.vdr_command.specs.declared.status.Status.TheVariants.{Done, Unformatted, Damaged, MediaFault, OutputFault, NoMemory, NoChannel, NoIncident, ExportKind, ExportNothing, ExportMixed, ExportLong, ExportPart}
use Rattle.vdr_readout.specs.Reads.{AskedPlay, CanBeRead, CanPlay, LacksChannel, MetUnreadable, PlayEnds, channel_asked, records_asked}

-- The file that is to be made of a channel of this name.
abbrev pub file_in : Wish → Configuration → (name : List ℕ) → Option File
file_in wish c name = wished wish (kind_at c.channels (channel_asked c name))

-- The bytes of the file, out of media with these contents, or why there are none.
unfoldable pub made_of : Contents → AskedPlay → File → Result (List ℕ) ExportRefused
made_of x asked file = file_of file (records_asked x asked)

-- How the writing of a file ends the command.
abbrev pub status_of_export : Result ⊤ ExportRefused → Status
status_of_export (Ok u) = Done
status_of_export (Err exports.Nothing) = ExportNothing
status_of_export (Err (exports.Mixed place)) = ExportMixed place
status_of_export (Err exports.Long) = ExportLong
status_of_export (Err (exports.Part number)) = ExportPart number
status_of_export (Err exports.Fault) = MediaFault
status_of_export (Err (exports.Damaged m offset)) = Damaged m offset
status_of_export (Err exports.Output) = OutputFault
status_of_export (Err exports.NoMemory) = NoMemory

abbrev pub IsSound : Wish → Type 0
IsSound (Sound timing) = ⊤
IsSound (Picture block) = ⊥
IsSound Listing = ⊥

abbrev pub IsPicture : Wish → Type 0
IsPicture (Sound timing) = ⊥
IsPicture (Picture block) = ⊤
IsPicture Listing = ⊥

abbrev pub IsNoListing : Wish → Type 0
IsNoListing (Sound timing) = ⊤
IsNoListing (Picture block) = ⊤
IsNoListing Listing = ⊥

-- The command ends so, and in no other way.
abbrev pub IsExportStatus : Wish → Status → Type 0
IsExportStatus wish Done = ⊤
IsExportStatus wish Unformatted = ⊤
IsExportStatus wish (Damaged m offset) = ⊤
IsExportStatus wish MediaFault = ⊤
IsExportStatus wish OutputFault = ⊤
IsExportStatus wish NoMemory = ⊤
IsExportStatus wish NoChannel = ⊤
IsExportStatus wish (NoIncident id) = ⊤
IsExportStatus wish ExportKind = ⊤
IsExportStatus wish ExportNothing = IsNoListing wish
IsExportStatus wish (ExportMixed place) = IsNoListing wish
IsExportStatus wish ExportLong = IsSound wish
IsExportStatus wish (ExportPart number) = IsPicture wish
IsExportStatus wish status = ⊥

-- The file may have been begun: a sound is read once more as it is written, and the others are written when all was read.
abbrev pub MayWrite : Wish → Status → Type 0
MayWrite wish Done = ⊤
MayWrite wish OutputFault = ⊤
MayWrite wish MediaFault = IsSound wish
MayWrite wish (Damaged m offset) = IsSound wish
MayWrite wish status = ⊥

-- The records were read, and the file was written or refused.
abbrev pub IsJudged : Status → Type 0
IsJudged Done = ⊤
IsJudged OutputFault = ⊤
IsJudged ExportNothing = ⊤
IsJudged (ExportMixed place) = ⊤
IsJudged ExportLong = ⊤
IsJudged (ExportPart number) = ⊤
IsJudged status = ⊥

-- Channel and incident are there, and the channel is of the file's kind.
abbrev pub CanExport : Wish → AskedPlay → Contents → Type 0
CanExport wish asked x = CanPlay x asked.medium asked.channel × ((file : File) × (file_in wish x.config asked.channel ≡ Some file))

-- P holds of the refusal that the status tells, where it tells one.
abbrev pub IfRefusal : Status → (ExportRefused → Type 0) → Type 0
IfRefusal ExportNothing P = P exports.Nothing
IfRefusal (ExportMixed place) P = P (exports.Mixed place)
IfRefusal ExportLong P = P exports.Long
IfRefusal (ExportPart number) P = P (exports.Part number)
IfRefusal status P = ⊤

-- How a command ends that is to write this file.
pub record WritesFile (file : Result (List ℕ) ExportRefused) (status : Status) (old new : OutputSeen) : Type 0 where
  -- it is written, or a front of it where something failed
  pub written : (bytes : List ℕ) → file ≡ Ok bytes → PrintsText bytes status old new
  pub front : (bytes : List ℕ) → file ≡ Ok bytes → PrintsFront bytes old new
  -- it is refused only where there is none, and so
  pub done : status ≡ Done → (bytes : List ℕ) × (file ≡ Ok bytes)
  pub refused : IfRefusal status (λ why. file ≡ Err why)

module _ {tells tells_images : Type 0} where
  -- How the command ends.
  pub record ExportEnds (wish : Wish) (asked : AskedPlay) (old new : Outside tells tells_images) (status : Status) : Type 0 where
    pub own : IsExportStatus wish status
    -- what is made of what the media hold is written
    pub written : (x : Contents) (file : File) → tells → HoldsContents old.media.disk.reads x → CanBeRead x → file_in wish x.config asked.channel ≡ Some file
        → WritesFile (made_of x asked file) status old.output new.output
    -- each refusal and failure comes only with its cause
    pub kind : status ≡ ExportKind → tells → IsOpenableWith old.media.disk.reads (λ x. CanPlay x asked.medium asked.channel × (file_in wish x.config asked.channel ≡ None))
    pub openable : IsJudged status → tells → IsOpenableWith old.media.disk.reads (CanExport wish asked)
    pub damaged : IfDamaged status (λ m offset. IsRefusedAt old.media.disk new.media.disk m offset ⊎ MetUnreadable asked old.media.disk new.media.disk (CanExport wish asked) m offset)
    pub output : status ≡ OutputFault → OutputFailed old.output new.output
    pub line : status ≡ NoChannel → Writes (channel_line asked.channel) old.output new.output
    pub silent : MayWrite wish status ⊎ (IsNoChannel status ⊎ (new.output ≡ old.output))
    -- the media, and what is said of them, are as for a play
    pub media : PlayEnds asked old.media new.media status
    pub missing : AddsMissing old.media.disk new.media.disk

-- What can be made is made, and what can't is refused by its own refusal, or there was no memory.
pub record ExportsAll (wish : Wish) (asked : AskedPlay) (image : Image) (status : Status) : Type 0 where
  pub refused : RefusesAll image status
  pub channel : (x : Contents) → HoldsContents image x → EndsMeet (members_with x.further) (reading_of x) → LacksChannel x.config asked.channel → (status ≡ NoChannel) ⊎ (status ≡ NoMemory)
  pub incident : (x : Contents) (id : ℕ) → HoldsContents image x → EndsMeet (members_with x.further) (reading_of x) → (LacksChannel x.config asked.channel → ⊥) → asked.medium ≡ Incident id
      → live x.table id ≡ None → (status ≡ NoIncident id) ⊎ (status ≡ NoMemory)
  pub kind : (x : Contents) → HoldsContents image x → EndsMeet (members_with x.further) (reading_of x) → CanPlay x asked.medium asked.channel → file_in wish x.config asked.channel ≡ None
      → (status ≡ ExportKind) ⊎ (status ≡ NoMemory)
  pub none : (x : Contents) (file : File) (why : ExportRefused) → HoldsContents image x → EndsMeet (members_with x.further) (reading_of x) → CanBeRead x → CanPlay x asked.medium asked.channel
      → file_in wish x.config asked.channel ≡ Some file → made_of x asked file ≡ Err why → (status ≡ status_of_export (Err why)) ⊎ (status ≡ NoMemory)
  pub done : (x : Contents) (file : File) (bytes : List ℕ) → HoldsContents image x → EndsMeet (members_with x.further) (reading_of x) → CanBeRead x → CanPlay x asked.medium asked.channel
      → file_in wish x.config asked.channel ≡ Some file → made_of x asked file ≡ Ok bytes → IsDone status

-- What `wav`, `picture` and `pictures` owe.
pub record Exports {tells tells_images : Type 0} (wish : Wish) (asked : AskedPlay) (old new : Outside tells tells_images) (status : Status) : Type 0 where
  pub ends : ExportEnds wish asked old new status
  -- nothing else comes in the place of the file, or of a refusal, but want of memory
  pub complete : NothingFailed old new → tells → ExportsAll wish asked old.media.disk.reads status

-- `wav`, and its words: those of a play.
pub record AreWaveWords (texts : List (List ℕ)) (asked : AskedPlay) : Type 0 where
  pub medium : List ℕ
  pub channel : List ℕ
  pub from : List ℕ
  pub to : List ℕ
  pub words : texts ≡ codes "wav" ∷ medium ∷ channel ∷ from ∷ to ∷ []
  pub spelled : SpellsPlay medium channel from to (PlayOrder asked.medium asked.channel asked.from asked.to)

abbrev pub sounding : AskedPlay → Promise
sounding asked = record {
  words = λ texts. AreWaveWords texts asked;
  legal = ⊤;
  reads_input = ⊥;
  uses_media = ⊤;
  owes = λ old new hears w status. Exports (Sound Numbered) asked old new status;
}

-- `wav` with `timed` behind its words.
pub record AreTimedWords (texts : List (List ℕ)) (asked : AskedPlay) : Type 0 where
  pub medium : List ℕ
  pub channel : List ℕ
  pub from : List ℕ
  pub to : List ℕ
  pub words : texts ≡ codes "wav" ∷ medium ∷ channel ∷ from ∷ to ∷ codes "timed" ∷ []
  pub spelled : SpellsPlay medium channel from to (PlayOrder asked.medium asked.channel asked.from asked.to)

abbrev pub sounding_in_time : AskedPlay → Promise
sounding_in_time asked = record {
  words = λ texts. AreTimedWords texts asked;
  legal = ⊤;
  reads_input = ⊥;
  uses_media = ⊤;
  owes = λ old new hears w status. Exports (Sound (timed_from asked.from)) asked old new status;
}

-- `picture`, and its words: those of a play, with the source of the image and the number of its block behind the channel.
pub record ArePictureWords (texts : List (List ℕ)) (asked : AskedPlay) (block : Block) : Type 0 where
  pub medium : List ℕ
  pub channel : List ℕ
  pub from : List ℕ
  pub to : List ℕ
  pub words : texts ≡ codes "picture" ∷ medium ∷ channel ∷ block.source ∷ decimal block.number ∷ from ∷ to ∷ []
  pub spelled : SpellsPlay medium channel from to (PlayOrder asked.medium asked.channel asked.from asked.to)

-- Six bytes of 0x21 to 0x7E, and a number of four bytes.
pub record IsBlock (block : Block) : Type 0 where
  pub source : is_identifier block.source ≡ true
  pub number : block.number < 2 ^ 32

abbrev pub picturing : AskedPlay → Block → Promise
picturing asked block = record {
  words = λ texts. ArePictureWords texts asked block;
  legal = IsBlock block;
  reads_input = ⊥;
  uses_media = ⊤;
  owes = λ old new hears w status. Exports (Picture block) asked old new status;
}

-- `pictures`, and its words: those of a play.
pub record AreListingWords (texts : List (List ℕ)) (asked : AskedPlay) : Type 0 where
  pub medium : List ℕ
  pub channel : List ℕ
  pub from : List ℕ
  pub to : List ℕ
  pub words : texts ≡ codes "pictures" ∷ medium ∷ channel ∷ from ∷ to ∷ []
  pub spelled : SpellsPlay medium channel from to (PlayOrder asked.medium asked.channel asked.from asked.to)

abbrev pub listing : AskedPlay → Promise
listing asked = record {
  words = λ texts. AreListingWords texts asked;
  legal = ⊤;
  reads_input = ⊥;
  uses_media = ⊤;
  owes = λ old new hears w status. Exports Listing asked old new status;
}

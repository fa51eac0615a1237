-- What `replay` answers, and what it leaves of the media (this project's profile).
use Rattle.std.specs.Prelude.{◌≡◌, ◌≢◌, ◌≤◌, ◌<◌, ◌^◌, ◌⊎◌, ◌∷◌, ℕ, List, [], take, codes, Option, Some, Result, Ok, Err, ⊤}
use Rattle.std.specs.Io.KnownBytes.{IsAtEnd}
use Rattle.vdr_terms.specs.Records.{FeedItem}
use Rattle.vdr_core.specs.Runs.{base_after}
use Rattle.vdr_durability.specs.Readings.{EndsMeet}
use Rattle.vdr_outside.specs.Disk.{Image, SameBut}
use Rattle.vdr_feed.specs.Feed.{IsFeed, feed_header, longest_feed}
use Rattle.vdr_feed.specs.Reader.{IfKnown}
use Rattle.vdr_media.specs.Formatted.{IsFormatted, IsUnformatted, members}
use Rattle.vdr_opening.specs.Media.{members_with, Contents, HoldsContents, opening_of, reading_of}
use Rattle.vdr_opening.specs.Refusals.{IsRefused}
use Rattle.vdr_vault.specs.Calls.{SameElsewhere}
use Rattle.vdr_vault.specs.Openings.{LeavesAll}
use Rattle.vdr_replay.specs.Answers.{Answers, Decides, EndsAtHeader, HasReplayCause, IfOpened, RefusesMedia, RefusesRun, TellsHeader}
use Rattle.vdr_replay.specs.Headline.{LeavesHistory}
use Rattle.vdr_replay.specs.Feeding.{AreConfigured, RefusesNext}
use Rattle.vdr_replay.specs.declared.ended.FeedEnd.{FeedEnd}
use Rattle.vdr_replay.specs.declared.ended.FeedEnd.TheVariants as feed_ends
use Rattle.vdr_replay.specs.declared.ended.Replayed.{Replayed}
use Rattle.vdr_replay.specs.declared.ended.ReplayRefused.{ReplayRefused}
use Rattle.vdr_replay.specs.declared.ended.ReplayRefused.TheVariants as stops
use Rattle.vdr_command.specs.Endings.{IsDone, IsRefusal}
use Rattle.vdr_command.specs.Opened.{AddsMissing, IsOpenableWith, IsUntouched, WasRecorded}
use Rattle.vdr_command.specs.Outside.{AreLeftAlone, InputFailed, MediaFailed, MediaSeen, NothingFailed, OutputFailed, OutputSeen, Outside, Prints, PrintsFront, Writes}
use Rattle.vdr_command.specs.Promises.{Promise}
use Rattle.vdr_recorder.specs.Refusals.{MayBegin}
use Rattle.vdr_recorder.specs.Watched.{Watched}
use Rattle.vdr_tool.specs.Summaries.{summary_text}
use Rattle.vdr_command.specs.Statuses.{status_of_replay}
use Rattle.vdr_command.specs.declared.status.Status.{Status}
use Rattle.vdr_command.specs.declared.status.Status.TheVariants.{Done, Unformatted, Damaged, InputFault, OutputFault, NoMemory, Feed, Place, Tick}

-- The summary of a run that was closed, by the status.
abbrev pub PrintsRun : FeedEnd → (summary : List ℕ) → Status → (old new : OutputSeen) → Type 0
PrintsRun feed_ends.Whole summary status old new =
    ((status ≡ Done) × Prints summary old new) ⊎ ((status ≡ OutputFault) × OutputFailed old new × PrintsFront summary old new)
-- the status is decided, and stands where the output fails
PrintsRun feed_ends.Input summary status old new = (status ≡ InputFault) × Writes summary old new
PrintsRun (feed_ends.Refused number offset) summary status old new = (status ≡ Feed number offset) × Writes summary old new

-- Status and output tell how the recording ended: of a run that was not closed there is no summary.
abbrev pub TellsRun : Result Replayed ReplayRefused → Status → (old new : OutputSeen) → Type 0
TellsRun (Ok run) status old new = PrintsRun run.end (summary_text run.groups run.records) status old new
TellsRun (Err stop) status old new = (status ≡ status_of_replay stop) × (new ≡ old)

-- What the answer says of the input and of the media at entry, and what the input and the media are afterwards.
pub record ReplayEnds {tells tells_images : Type 0} (input now : Option (List ℕ)) (old new : MediaSeen tells tells_images) (hears : Type 0) (w : Watched) (answer : Result Replayed ReplayRefused) : Type 0 where
  -- one history of the feed, whole and at every moment
  pub recorded : (x : Contents) (bytes : List ℕ) → tells → HoldsContents old.disk.reads x → WasRecorded x → input ≡ Some bytes
      → Answers x bytes now (MediaFailed old new) old.disk new.disk hears w answer
  -- and whatever is known of the input, one history of some feed
  pub left : (x : Contents) → tells → HoldsContents old.disk.reads x → EndsMeet (members_with x.further) (reading_of x) → WasRecorded x → LeavesHistory x (MediaFailed old new) old.disk new.disk hears w
  pub blank : tells → IsUnformatted old.disk.reads → LeavesAll old.disk new.disk
  -- a header that is refused, or can't be read, leaves the media alone, and media that are refused are not written
  pub unopened : EndsAtHeader answer → AreLeftAlone old new
  pub untouched : RefusesMedia answer → IsUntouched old.disk new.disk
  -- nor does a run that is refused write more than the batch that the long-term medium lacks
  pub beside : RefusesRun answer → tells → SameBut 1 old.disk.reads new.disk.reads
  pub missing : RefusesRun answer → AddsMissing old.disk new.disk
  -- each refusal comes only in its case
  pub header : TellsHeader input now answer
  pub openable : tells → IfOpened answer (IsOpenableWith old.disk.reads (λ x. Decides x input now answer))
  pub unformatted : answer ≡ Err stops.NotFormatted → tells → IsUnformatted old.disk.reads
  pub damaged : (m offset : ℕ) → answer ≡ Err (stops.Damaged m offset) → tells → IsFormatted old.disk.reads × IsRefused old.disk.reads m offset
  pub others : tells → SameElsewhere members old.disk.reads new.disk.reads
  pub cause : HasReplayCause old.faults new.faults answer

-- A feed is done, and what is none, or may not be recorded, is refused by its own refusal, or there was no memory.
pub record ReplaysAll (bytes : List ℕ) (image : Image) (status : Status) : Type 0 where
  pub header : take 8 bytes ≢ feed_header → IsRefusal 1 0 status
  pub unformatted : take 8 bytes ≡ feed_header → IsUnformatted image → (status ≡ Unformatted) ⊎ (status ≡ NoMemory)
  pub damaged : take 8 bytes ≡ feed_header → IsFormatted image → (m offset : ℕ) → IsRefused image m offset → (status ≡ Damaged m offset) ⊎ (status ≡ NoMemory)
  pub place : (x : Contents) → take 8 bytes ≡ feed_header → HoldsContents image x → EndsMeet (members_with x.further) (reading_of x)
      → 2 ^ 62 ≤ (opening_of x).next_place → (status ≡ Place) ⊎ (status ≡ NoMemory)
  pub tick : (x : Contents) → take 8 bytes ≡ feed_header → HoldsContents image x → EndsMeet (members_with x.further) (reading_of x)
      → (opening_of x).next_place < 2 ^ 62 → 2 ^ 62 ≤ base_after (opening_of x).last → (status ≡ Tick) ⊎ (status ≡ NoMemory)
  pub refused : (x : Contents) (feed : List FeedItem) (number offset : ℕ) → HoldsContents image x → EndsMeet (members_with x.further) (reading_of x) → MayBegin (opening_of x)
      → RefusesNext x.config.groups bytes number offset feed → AreConfigured x.config.groups feed → IsRefusal number offset status
  pub done : (x : Contents) (feed : List FeedItem) → HoldsContents image x → EndsMeet (members_with x.further) (reading_of x) → MayBegin (opening_of x)
      → IsFeed longest_feed bytes feed → AreConfigured x.config.groups feed → IsDone status

-- What `replay` owes. `w`: what an object was told meanwhile, where it `hears` anything.
pub record Replays {tells tells_images : Type 0} (old new : Outside tells tells_images) (hears : Type 0) (w : Watched) (status : Status) : Type 0 where
  -- all was done: the input was read to its end
  pub done : status ≡ Done → IsAtEnd new.input.left
  -- how the recording ended, as status and output tell it
  pub answer : Result Replayed ReplayRefused
  pub told : TellsRun answer status old.output new.output
  -- each failure comes only with its cause
  pub input : status ≡ InputFault → InputFailed old.input new.input
  pub output : status ≡ OutputFault → OutputFailed old.output new.output
  -- the media, and what is said of them
  pub media : ReplayEnds old.input.left new.input.left old.media new.media hears w answer
  -- nothing else comes in the place of the recording, or of a refusal, but want of memory
  pub complete : NothingFailed old new → IfKnown old.input.left (λ bytes. tells → ReplaysAll bytes old.media.disk.reads status)

abbrev pub replaying : Promise
replaying = record {
  words = λ texts. texts ≡ codes "replay" ∷ [];
  legal = ⊤;
  reads_input = ⊤;
  uses_media = ⊤;
  owes = λ old new hears w status. Replays old new hears w status;
}

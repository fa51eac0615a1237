-- What `replay` answers, and what it leaves of the media.
use Rattle.std.specs.Prelude.{◌≡◌, ◌≢◌, ◌≤◌, ◌<◌, ◌^◌, ◌⊎◌, ℕ, List, length, take, get_or, sum, Any, Option, Result, Ok, Err, ⊤}
use Rattle.vdr_terms.specs.Records.{FeedItem}
use Rattle.vdr_core.specs.Feed.{items_of, feed_records}
use Rattle.vdr_core.specs.Runs.{base_after}
use Rattle.vdr_durability.specs.Readings.{EndsMeet}
use Rattle.vdr_outside.specs.Causes.{NoneFalls, Rose}
use Rattle.vdr_outside.specs.Disk.{Disk, Image}
use Rattle.vdr_outside.specs.Filling.{ReadsFewer}
use Rattle.vdr_feed.specs.Feed.{Reaches, feed_header, longest_feed}
use Rattle.vdr_feed.specs.Reader.{IfKnown}
use Rattle.vdr_media.specs.Formatted.{IsFormatted}
use Rattle.vdr_media.specs.Formatted.{members}
use Rattle.vdr_opening.specs.Media.{members_with, Contents, HoldsParts, opening_of, reading_of}
use Rattle.vdr_recorder.specs.Recordings.{start_of_opening}
use Rattle.vdr_recorder.specs.Refusals.{MayBegin}
use Rattle.vdr_recorder.specs.Watched.{Watched}
use Rattle.vdr_replay.specs.declared.ended.Replayed.{Replayed}
use Rattle.vdr_replay.specs.declared.ended.ReplayRefused.{ReplayRefused}
use Rattle.vdr_replay.specs.declared.ended.ReplayRefused.TheVariants.{NoMemory, Input, Refused, NotFormatted, Damaged, Place, Tick, Media}
use Rattle.vdr_replay.specs.Feeding.{AreConfigured, ReadsFeed}
use Rattle.vdr_replay.specs.Headline.{NothingIsRecorded, ReplayHeadline}
use Rattle.vdr_replay.specs.Headline.RunEnd.{Closed, Broken}
use Rattle.vdr_replay.specs.Summary.{AreSums}

module _ {tells tells_images : Type 0} (x : Contents) (bytes : List ℕ) (now : Option (List ℕ)) (rose : Type 0) (before after : Disk tells tells_images) (hears : Type 0) (w : Watched) where
  -- The feed up to its end, or to what was refused or failed, is recorded as one run that was closed.
  pub record IsRecorded (r : Replayed) : Type 0 where
    pub feed : List FeedItem
    pub read : ReadsFeed x.config.groups bytes now r.end feed
    pub configured : AreConfigured x.config.groups feed
    pub may : MayBegin (opening_of x)
    pub left : ReplayHeadline x rose before after hears w feed Closed
    pub sums : AreSums x.config.groups (λ g. items_of g feed) (feed_records (start_of_opening (opening_of x)) feed) r.groups
    pub total : r.records ≡ length (feed_records (start_of_opening (opening_of x)) feed)

  -- The run has begun, and the media failed in it.
  pub record IsBrokenOff : Type 0 where
    pub feed : List FeedItem
    pub rest : List ℕ
    pub read : Reaches longest_feed bytes feed rest
    pub configured : AreConfigured x.config.groups feed
    pub may : MayBegin (opening_of x)
    pub left : ReplayHeadline x rose before after hears w feed Broken

  -- Of media whose ends don't meet nothing is said where opening them failed or had no memory.
  abbrev pub Answers : Result Replayed ReplayRefused → Type 0
  Answers (Ok r) = IsRecorded r
  Answers (Err Media) = EndsMeet (members_with x.further) (reading_of x) → NothingIsRecorded x rose before after ⊎ IsBrokenOff
  Answers (Err NoMemory) = EndsMeet (members_with x.further) (reading_of x) → NothingIsRecorded x rose before after
  Answers (Err Place) = (2 ^ 62 ≤ (opening_of x).next_place) × NothingIsRecorded x rose before after
  Answers (Err Tick) = ((opening_of x).next_place < 2 ^ 62) × (2 ^ 62 ≤ base_after (opening_of x).last) × NothingIsRecorded x rose before after
  Answers (Err Input) = NothingIsRecorded x rose before after
  Answers (Err (Refused number offset)) = NothingIsRecorded x rose before after
  Answers (Err NotFormatted) = NothingIsRecorded x rose before after
  Answers (Err (Damaged medium offset)) = NothingIsRecorded x rose before after

-- A feed without its header is refused, unless the source fails within its first eight bytes; one with it is read on.
abbrev pub TellsHeader : (left now : Option (List ℕ)) → Result Replayed ReplayRefused → Type 0
TellsHeader left now (Ok r) = IfKnown left (λ bytes. take 8 bytes ≡ feed_header)
TellsHeader left now (Err Input) = ReadsFewer 8 left now
TellsHeader left now (Err (Refused number offset)) = (number ≡ 1) × (offset ≡ 0) × IfKnown left (λ bytes. take 8 bytes ≢ feed_header)
TellsHeader left now (Err NoMemory) = IfKnown left (λ bytes. take 8 bytes ≡ feed_header)
TellsHeader left now (Err NotFormatted) = IfKnown left (λ bytes. take 8 bytes ≡ feed_header)
TellsHeader left now (Err (Damaged medium offset)) = IfKnown left (λ bytes. take 8 bytes ≡ feed_header)
TellsHeader left now (Err Place) = IfKnown left (λ bytes. take 8 bytes ≡ feed_header)
TellsHeader left now (Err Tick) = IfKnown left (λ bytes. take 8 bytes ≡ feed_header)
TellsHeader left now (Err Media) = IfKnown left (λ bytes. take 8 bytes ≡ feed_header)

-- Whether a run begins is decided by what opening reads of the media, sound or not, and how its feed ends by their configuration.
abbrev pub Decides : Contents → (left now : Option (List ℕ)) → Result Replayed ReplayRefused → Type 0
Decides x left now (Ok r) = MayBegin (opening_of x) × IfKnown left (λ bytes. (feed : List FeedItem) × ReadsFeed x.config.groups bytes now r.end feed × AreConfigured x.config.groups feed)
Decides x left now (Err Place) = 2 ^ 62 ≤ (opening_of x).next_place
Decides x left now (Err Tick) = ((opening_of x).next_place < 2 ^ 62) × (2 ^ 62 ≤ base_after (opening_of x).last)
Decides x left now (Err NoMemory) = ⊤
Decides x left now (Err Input) = ⊤
Decides x left now (Err (Refused number offset)) = ⊤
Decides x left now (Err NotFormatted) = ⊤
Decides x left now (Err (Damaged medium offset)) = ⊤
Decides x left now (Err Media) = ⊤

-- The image is formatted, what opening reads of it is legal and its ends meet, and P holds of what was read.
abbrev pub IsOpenable : Image → (P : Contents → Type 0) → Type 0
IsOpenable image P = IsFormatted image × (x : Contents) × HoldsParts image x × EndsMeet (members_with x.further) (reading_of x) × P x

-- What is said where the media were opened, and not refused before.
abbrev pub IfOpened : Result Replayed ReplayRefused → Type 0 → Type 0
IfOpened (Ok r) P = P
IfOpened (Err Place) P = P
IfOpened (Err Tick) P = P
IfOpened (Err NoMemory) P = ⊤
IfOpened (Err Input) P = ⊤
IfOpened (Err (Refused number offset)) P = ⊤
IfOpened (Err NotFormatted) P = ⊤
IfOpened (Err (Damaged medium offset)) P = ⊤
IfOpened (Err Media) P = ⊤

-- It ended at the feed's header: that was refused, or the source failed there.
abbrev pub EndsAtHeader : Result Replayed ReplayRefused → Type 0
EndsAtHeader (Err Input) = ⊤
EndsAtHeader (Err (Refused number offset)) = ⊤
EndsAtHeader (Ok r) = ⊥
EndsAtHeader (Err NoMemory) = ⊥
EndsAtHeader (Err NotFormatted) = ⊥
EndsAtHeader (Err (Damaged medium offset)) = ⊥
EndsAtHeader (Err Place) = ⊥
EndsAtHeader (Err Tick) = ⊥
EndsAtHeader (Err Media) = ⊥

-- The media were refused.
abbrev pub RefusesMedia : Result Replayed ReplayRefused → Type 0
RefusesMedia (Err NotFormatted) = ⊤
RefusesMedia (Err (Damaged medium offset)) = ⊤
RefusesMedia (Ok r) = ⊥
RefusesMedia (Err NoMemory) = ⊥
RefusesMedia (Err Input) = ⊥
RefusesMedia (Err (Refused number offset)) = ⊥
RefusesMedia (Err Place) = ⊥
RefusesMedia (Err Tick) = ⊥
RefusesMedia (Err Media) = ⊥

-- The run was not begun on media that were read, and not for a fault of theirs.
abbrev pub RefusesRun : Result Replayed ReplayRefused → Type 0
RefusesRun (Err Place) = ⊤
RefusesRun (Err Tick) = ⊤
RefusesRun (Err NoMemory) = ⊤
RefusesRun (Ok r) = ⊥
RefusesRun (Err Input) = ⊥
RefusesRun (Err (Refused number offset)) = ⊥
RefusesRun (Err NotFormatted) = ⊥
RefusesRun (Err (Damaged medium offset)) = ⊥
RefusesRun (Err Media) = ⊥

-- No count of faults falls, and the media failed only where the count of one of them rose, and so their sum.
pub record HasReplayCause (before now : List ℕ) (result : Result Replayed ReplayRefused) : Type 0 where
  pub later : NoneFalls before now
  pub by_medium : result ≡ Err Media → Any (λ m. Rose (get_or before m 0) (get_or now m 0)) members
  pub in_all : result ≡ Err Media → Rose (sum before) (sum now)

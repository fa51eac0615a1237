-- What a recorder has of a feed while it is read, and what its calls make of it.
use Rattle.std.specs.Prelude.{◌≡◌, ◌<◌, ◌⊎◌, ◌++◌, ℕ, List, [], All, Option}
use Rattle.vdr_terms.specs.Records.{Record, FeedItem}
use Rattle.vdr_core.specs.Feed.{feed_records}
use Rattle.vdr_core.specs.Histories.{Event, Opening, recorded}
use Rattle.vdr_core.specs.Recorder.{recorder_after}
use Rattle.vdr_core.specs.RunStates.{recorder_in, state_left}
use Rattle.vdr_core.specs.Runs.{RunStart}
use Rattle.vdr_core.specs.Taken.{Captured}
use Rattle.vdr_core.specs.Replay.{taken_of}
use Rattle.vdr_outside.specs.Disk.{Disk}
use Rattle.vdr_feed.specs.Feed.{Reaches, longest_feed}
use Rattle.vdr_feed.specs.Reader.{IfKnown, Reading}
use Rattle.vdr_run.specs.Making.{CountsItems}
use Rattle.vdr_recorder.specs.Recordings.{HasRecorded, Passes, RecorderState, start_of_opening}
use Rattle.vdr_recorder.specs.Watched.{Tells, Watched}
use Rattle.vdr_replay.specs.declared.ended.FeedEnd.{FeedEnd}
use Rattle.vdr_replay.specs.declared.lanes.Lanes.{Lanes}
use Rattle.vdr_replay.specs.Feeding.{AreConfigured, ReadsFeed}
use Rattle.vdr_run.specs.Given.{CountsFeed}
use Rattle.vdr_replay.specs.Given.{HoldsFeed}
use Rattle.vdr_feed.specs.Progress.{HasRead}

-- The records are those of a run over the first of what is taken of the feed, or of the whole run.
abbrev pub IsCut : RunStart → List FeedItem → List Record → Type 0
IsCut start feed records =
    ((items more : List Captured) × (taken_of [] feed ≡ items ++ more) × (records ≡ (recorder_after start items).made))
    ⊎ (records ≡ feed_records start feed)

module _ {tells tells_images : Type 0} where
  -- The first run since the opening is open. What was taken of this part of a feed is recorded, but for the batch that waits.
  pub record HasTaken (opening : Opening) (feed : List FeedItem) (batch : List Captured) (events : List Event) (t0 : ℕ)
      (r : RecorderState) (disk : Disk tells tells_images) : Type 0 where
    pub has : HasRecorded opening events t0 r disk
    pub begun : (state_left opening events).start ≡ start_of_opening opening
    pub made : recorded events ≡ (recorder_in (state_left opening events)).made
    pub order : taken_of [] feed ≡ (state_left opening events).popped ++ batch

  -- After a call it has so much of the feed, by further events.
  pub record TakesOn (opening : Opening) (feed : List FeedItem) (batch : List Captured) (before : List Event) (t0 : ℕ)
      (r : RecorderState) (old new : Disk tells tells_images) (hears : Type 0) (was is : Watched) : Type 0 where
    pub more : List Event
    pub taken : HasTaken opening feed batch (before ++ more) t0 r new
    pub passes : Passes opening (before ++ more) old new
    pub heard : Tells hears opening before (before ++ more) was is

  -- The media failed in the call. Of this part of a feed the first records were made.
  pub record BreaksOff (opening : Opening) (feed : List FeedItem) (before : List Event) (t0 : ℕ)
      (r : RecorderState) (old new : Disk tells tells_images) (hears : Type 0) (was is : Watched) : Type 0 where
    pub more : List Event
    pub has : HasRecorded opening (before ++ more) t0 r new
    pub cut : IsCut (start_of_opening opening) feed (recorded (before ++ more))
    pub passes : Passes opening (before ++ more) old new
    pub heard : Tells hears opening before (before ++ more) was is

  -- The run over the feed was closed in the call.
  pub record Closes (opening : Opening) (feed : List FeedItem) (before : List Event) (t0 : ℕ)
      (r : RecorderState) (old new : Disk tells tells_images) (hears : Type 0) (was is : Watched) : Type 0 where
    pub more : List Event
    pub has : HasRecorded opening (before ++ more) t0 r new
    pub made : recorded (before ++ more) ≡ feed_records (start_of_opening opening) feed
    pub counts : CountsItems (start_of_opening opening) (taken_of [] feed) r.maker
    pub passes : Passes opening (before ++ more) old new
    pub heard : Tells hears opening before (before ++ more) was is

  -- The feed was read up to its end, or to what was refused or failed, and taken.
  pub record TakesFeed (left : Option (List ℕ)) (reader : Reading) (now : Option (List ℕ)) (end : FeedEnd) (lanes : Lanes) (before after : RecorderState)
      (old new : Disk tells tells_images) (hears : Type 0) (was is : Watched) : Type 0 where
    pub feed : List FeedItem
    pub read : (first : Option (List ℕ)) → HasRead first left reader [] → IfKnown first (λ bytes. ReadsFeed before.vault.config.groups bytes now end feed)
    pub held : HoldsFeed after.vault.config feed lanes after.maker
    pub told : (opening : Opening) (events : List Event) (t0 : ℕ) → tells → HasTaken opening [] [] events t0 before old
        → TakesOn opening feed lanes.batch.items events t0 after old new hears was is

  -- The same, and the run was closed.
  pub record RecordsFeed (left : Option (List ℕ)) (reader : Reading) (now : Option (List ℕ)) (end : FeedEnd) (lanes : Lanes) (before after : RecorderState)
      (old new : Disk tells tells_images) (hears : Type 0) (was is : Watched) : Type 0 where
    pub feed : List FeedItem
    pub read : (first : Option (List ℕ)) → HasRead first left reader [] → IfKnown first (λ bytes. ReadsFeed before.vault.config.groups bytes now end feed)
    pub counts : CountsFeed feed lanes.ports
    pub known : AreConfigured before.vault.config.groups feed
    pub low : All (λ i. i.group < 16) feed
    pub told : (opening : Opening) (events : List Event) (t0 : ℕ) → tells → HasTaken opening [] [] events t0 before old
        → Closes opening feed events t0 after old new hears was is

  -- The media failed while the feed was read and recorded.
  pub record BreaksFeed (left : Option (List ℕ)) (reader : Reading) (before after : RecorderState) (old new : Disk tells tells_images) (hears : Type 0) (was is : Watched) : Type 0 where
    pub feed : List FeedItem
    pub read : (first : Option (List ℕ)) → HasRead first left reader [] → IfKnown first (λ bytes. (rest : List ℕ) × Reaches longest_feed bytes feed rest)
    pub known : AreConfigured before.vault.config.groups feed
    pub low : All (λ i. i.group < 16) feed
    pub told : (opening : Opening) (events : List Event) (t0 : ℕ) → tells → HasTaken opening [] [] events t0 before old
        → BreaksOff opening feed events t0 after old new hears was is

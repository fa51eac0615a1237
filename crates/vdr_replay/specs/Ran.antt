-- What a run over a feed makes of media that were opened.
use Rattle.std.specs.Prelude.{◌≡◌, ◌≤◌, ◌<◌, ◌^◌, ℕ, ℤ, false, List, [], length, All, option_map, Option, Result, Ok, Err, ⊤}
use Rattle.vdr_terms.specs.declared.rate.Rate.{Rate}
use Rattle.vdr_terms.specs.Records.{FeedItem}
use Rattle.vdr_core.specs.Feed.{items_of, feed_records}
use Rattle.vdr_core.specs.Histories.{Opening}
use Rattle.vdr_core.specs.Runs.{base_after}
use Rattle.vdr_outside.specs.Disk.{Disk}
use Rattle.vdr_feed.specs.Feed.{Reaches, longest_feed}
use Rattle.vdr_feed.specs.Reader.{IfKnown, Reading}
use Rattle.vdr_recorder.specs.Recordings.{HasRecorded, Passes, RecorderState, start_of_opening}
use Rattle.vdr_recorder.specs.Refusals.{MayBegin}
use Rattle.vdr_recorder.specs.Watched.{Tells, Watched}
use Rattle.vdr_run.specs.Starts.{stamp_of}
use Rattle.vdr_replay.specs.Feeding.{AreConfigured, ReadsFeed}
use Rattle.vdr_feed.specs.Progress.{HasRead}
use Rattle.vdr_replay.specs.Summary.{AreSums}
use Rattle.vdr_replay.specs.Taking.{BreaksOff, Closes}
use Rattle.vdr_replay.specs.declared.ended.Replayed.{Replayed}
use Rattle.vdr_replay.specs.declared.ended.ReplayRefused.{ReplayRefused}
use Rattle.vdr_replay.specs.declared.ended.ReplayRefused.TheVariants.{NoMemory, Input, Refused, NotFormatted, Damaged, Place, Tick, Media}

module _ {tells tells_images : Type 0} (opening : Opening) (t0 : ℕ) (left : Option (List ℕ)) (reader : Reading) (now : Option (List ℕ)) (rates : List (Option Rate))
    (after : RecorderState) (old new : Disk tells tells_images) (hears : Type 0) (was is : Watched) where
  -- The run was closed.
  pub record HasRun (r : Replayed) : Type 0 where
    pub feed : List FeedItem
    pub read : (first : Option (List ℕ)) → HasRead first left reader [] → IfKnown first (λ bytes. ReadsFeed rates bytes now r.end feed)
    pub known : AreConfigured rates feed
    pub low : All (λ i. i.group < 16) feed
    pub may : MayBegin opening
    pub works : after.vault.failed ≡ false
    pub closes : Closes opening feed [] t0 after old new hears was is
    pub sums : AreSums rates (λ g. items_of g feed) (feed_records (start_of_opening opening) feed) r.groups
    pub total : r.records ≡ length (feed_records (start_of_opening opening) feed)

  -- The media failed in the run.
  pub record HasBroken : Type 0 where
    pub feed : List FeedItem
    pub read : (first : Option (List ℕ)) → HasRead first left reader [] → IfKnown first (λ bytes. (rest : List ℕ) × Reaches longest_feed bytes feed rest)
    pub known : AreConfigured rates feed
    pub low : All (λ i. i.group < 16) feed
    pub may : MayBegin opening
    pub breaks : BreaksOff opening feed [] t0 after old new hears was is

  -- The run was not begun.
  pub record HasNotBegun : Type 0 where
    pub has : HasRecorded opening [] t0 after new
    pub passes : Passes opening [] old new
    pub heard : Tells hears opening [] [] was is

  abbrev pub Runs : Result Replayed ReplayRefused → Type 0
  Runs (Ok r) = HasRun r
  Runs (Err Media) = HasBroken
  Runs (Err Place) = (2 ^ 62 ≤ opening.next_place) × HasNotBegun
  Runs (Err Tick) = (opening.next_place < 2 ^ 62) × (2 ^ 62 ≤ base_after opening.last) × HasNotBegun
  Runs (Err NoMemory) = ⊥
  Runs (Err Input) = ⊥
  Runs (Err (Refused number offset)) = ⊥
  Runs (Err NotFormatted) = ⊥
  Runs (Err (Damaged medium offset)) = ⊥

-- A run begins by its place and the last stamp, whatever the media tell, and of its feed these items were read by these rates.
module _ (place : ℕ) (newest : Option (ℕ × ℤ)) (left : Option (List ℕ)) (reader : Reading) (now : Option (List ℕ)) (rates : List (Option Rate)) where
  abbrev pub DecidesRun : Result Replayed ReplayRefused → Type 0
  DecidesRun (Ok r) = (place < 2 ^ 62) × (base_after (option_map stamp_of newest) < 2 ^ 62)
      × ((first : Option (List ℕ)) → HasRead first left reader [] → IfKnown first (λ bytes. (feed : List FeedItem) × ReadsFeed rates bytes now r.end feed × AreConfigured rates feed))
  DecidesRun (Err Place) = 2 ^ 62 ≤ place
  DecidesRun (Err Tick) = (place < 2 ^ 62) × (2 ^ 62 ≤ base_after (option_map stamp_of newest))
  DecidesRun (Err NoMemory) = ⊤
  DecidesRun (Err Input) = ⊤
  DecidesRun (Err (Refused number offset)) = ⊤
  DecidesRun (Err NotFormatted) = ⊤
  DecidesRun (Err (Damaged medium offset)) = ⊤
  DecidesRun (Err Media) = ⊤

-- A run is refused by its place or its base, or the media fail.
abbrev pub StopsIn : Result Replayed ReplayRefused → Type 0
StopsIn (Ok r) = ⊤
StopsIn (Err Media) = ⊤
StopsIn (Err Place) = ⊤
StopsIn (Err Tick) = ⊤
StopsIn (Err NoMemory) = ⊥
StopsIn (Err Input) = ⊥
StopsIn (Err (Refused number offset)) = ⊥
StopsIn (Err NotFormatted) = ⊥
StopsIn (Err (Damaged medium offset)) = ⊥

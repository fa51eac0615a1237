-- What waits for the next batch of what the ports of a feed gave.
use Rattle.std.specs.Prelude.{◌≡◌, ◌≤◌, ◌<◌, ◌+◌, ◌*◌, ◌/◌, ◌^◌, ◌++◌, ℕ, true, List, length, All}
use Rattle.vdr_terms.specs.Counting.{next_number}
use Rattle.vdr_terms.specs.Rates.{Limit, is_configured}
use Rattle.vdr_terms.specs.Records.{FeedItem, total}
use Rattle.vdr_core.specs.Feed.{items_of}
use Rattle.vdr_core.specs.Taken.{Captured}
use Rattle.vdr_core.specs.Replay.{rest_after}
use Rattle.vdr_core.specs.Runs.{RunStart}
use Rattle.vdr_durability.specs.Commits.{largest_item}
use Rattle.vdr_config.specs.Configuration.{Configuration}
use Rattle.vdr_config.specs.Sizes.{limits_in}
use Rattle.vdr_run.specs.Given.{CountsFeed}
use Rattle.vdr_run.specs.Making.{counted_of}
use Rattle.vdr_run.specs.Charges.{Foretells}
use Rattle.vdr_run.specs.Sizes.{FitAfter, bytes_of}
use Rattle.vdr_recorder.specs.Making.{MakesBy, least_datagram, numbers_of}
use Rattle.vdr_run.specs.declared.maker.Maker.{Maker}
use Rattle.vdr_feed.specs.Feed.{longest_feed}
use Rattle.vdr_feed.specs.declared.item.Item.{Item}
use Rattle.vdr_replay.specs.Captured.{pushed_of}
use Rattle.vdr_replay.specs.Feeding.{AreConfigured}
use Rattle.vdr_replay.specs.declared.lanes.Lanes.{Lanes}

-- A batch has room for any one item, and memory for as many as it may record, which are no fewer than it has.
pub record IsSized (lanes : Lanes) : Type 0 where
  pub any : largest_item < lanes.room
  pub space : lanes.room / least_datagram ≤ lanes.batch.capacity
  pub few : length lanes.batch.items ≤ lanes.room / least_datagram

-- It is foretold how many bytes the next item's records take behind these items and those of the batch, and how many the batch has left.
pub record AreCharged (limits : ℕ → Limit) (popped : List Captured) (lanes : Lanes) : Type 0 where
  pub foretells : Foretells limits (popped ++ lanes.batch.items) lanes.charges
  pub bytes : bytes_of limits (popped ++ lanes.batch.items) + lanes.left ≡ bytes_of limits popped + lanes.room

-- The batch has room for the next item of a feed: behind these items its records fit, and the memory is enough.
pub record HasRoomFor (limits : ℕ → Limit) (popped : List Captured) (feed : List FeedItem) (item : Item) (lanes : Lanes) : Type 0 where
  pub fits : FitAfter limits popped (lanes.batch.items ++ pushed_of feed item) lanes.room
  pub space : length (lanes.batch.items ++ pushed_of feed item) ≤ lanes.room / least_datagram

-- The batch has items of configured groups, and room for the configured bytes.
pub record HasBatch (config : Configuration) (lanes : Lanes) : Type 0 where
  pub room : lanes.room ≡ config.batch
  pub sized : IsSized lanes
  pub configured : All (λ c. is_configured (limits_in config.groups c.group) ≡ true) lanes.batch.items

-- The places and numbers of the run stay small: an item takes two places at most, and one number.
pub record AreFew (feed : List FeedItem) (batch : List Captured) (maker : Maker) : Type 0 where
  pub place : maker.place + 2 * length batch ≤ 2 ^ 62 + 2 * length feed
  pub numbers : (g : ℕ) → g < 16
      → next_number (counted_of maker g).pending + numbers_of g batch + total (rest_after feed g) ≤ length (items_of g feed)

-- The maker has taken some items in its run, and the batch is charged behind them.
pub record IsAhead (config : Configuration) (lanes : Lanes) (maker : Maker) : Type 0 where
  pub start : RunStart
  pub popped : List Captured
  pub makes : MakesBy config start popped maker
  pub charged : AreCharged (limits_in config.groups) popped lanes

-- What the ports gave of this part of a feed is counted, and what is not recorded of it fits the recorder.
pub record HoldsFeed (config : Configuration) (feed : List FeedItem) (lanes : Lanes) (maker : Maker) : Type 0 where
  pub few : length feed ≤ longest_feed
  pub counts : CountsFeed feed lanes.ports
  pub batch : HasBatch config lanes
  pub fits : AreFew feed lanes.batch.items maker
  pub ahead : IsAhead config lanes maker
  pub known : AreConfigured config.groups feed
  pub low : All (λ i. i.group < 16) feed

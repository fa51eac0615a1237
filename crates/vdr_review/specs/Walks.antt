-- What the walk over a feed holds after some items.
use Rattle.std.specs.Prelude.{◌≡◌, ◌≤◌, ◌<◌, ◌+◌, ℕ, List, filter, All, ◌++◌, [], Some}
use Rattle.vdr_terms.specs.declared.counts.Counts.{Counts}
use Rattle.vdr_terms.specs.Records.{Record, FeedItem, has_items, second}
use Rattle.vdr_terms.specs.Rates.{Limit}
use Rattle.vdr_core.specs.Recorder.{recorder_after}
use Rattle.vdr_core.specs.Runs.{RunStart}
use Rattle.vdr_core.specs.Taken.{Captured}
use Rattle.vdr_core.specs.Replay.{fed, taken_of}
use Rattle.vdr_feed.specs.declared.item.Item.{Item}
use Rattle.vdr_run.specs.Given.{CountsFeed, pushed_as}
use Rattle.vdr_run.specs.Making.{Makes}
use Rattle.vdr_review.specs.Review.{review_start, review_seconds}
use Rattle.vdr_review.specs.declared.walk.Walk.{Walk}

-- The Datagrams and Gaps of these.
abbrev pub kept_of : List Record → List Record
kept_of records = filter (λ r. has_items r.content) records

-- Of the Datagrams and Gaps that were made these are kept. Those that went are out of each window that ends in this second or later.
pub record KeepsWindow (last : ℕ) (made kept : List Record) : Type 0 where
  pub gone : List Record
  pub order : kept_of made ≡ gone ++ kept
  pub old : All (λ r. second r.tick + review_seconds ≤ last) gone

-- The second of what is made now.
abbrev pub second_in : Walk → ℕ
second_in walk = second (walk.maker.base + walk.maker.greatest)

-- The walk has met this part of a feed.
pub record Tells (limit : Limit) (walk : Walk) (feed : List FeedItem) : Type 0 where
  pub counts : CountsFeed feed walk.ports
  pub low : All (λ i. i.group < 16) feed
  pub makes : Makes walk.config (review_start limit) (taken_of [] feed) walk.maker
  pub window : KeepsWindow (second_in walk) (fed (review_start limit) feed).made walk.window

-- An item is taken with its number and what its port missed before it. What was made of it is kept, as far as it is in the window.
pub record TakesItem (item : Item) (told : ℕ × Counts) (old new : Walk) : Type 0 where
  pub ports : new.ports ≡ old.ports
  pub later : second_in old ≤ second_in new
  pub makes : (start : RunStart) (popped : List Captured) → Makes old.config start popped old.maker → Makes new.config start (popped ++ pushed_as item (Some told)) new.maker
  pub window : (start : RunStart) (popped : List Captured) → Makes old.config start popped old.maker
      → (more gone : List Record)
      × ((recorder_after start (popped ++ pushed_as item (Some told))).made ≡ (recorder_after start popped).made ++ more)
      × (old.window ++ kept_of more ≡ gone ++ new.window)
      × All (λ r. second r.tick + review_seconds ≤ second_in new) gone

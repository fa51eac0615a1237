-- What the ports of a feed gave so far, as it is counted.
use Rattle.std.specs.Prelude.{◌≡◌, ◌<◌, ℕ, List, [], ◌∷◌, length, count_by, slice_index_or, Option, None, Some}
use Rattle.vdr_terms.specs.declared.counts.Counts.{Counts}
use Rattle.vdr_terms.specs.Counting.{Tally, no_tally}
use Rattle.vdr_terms.specs.Datagrams.{verdict, is_bad, is_large}
use Rattle.vdr_terms.specs.Records.{FeedItem, Item}
use Rattle.vdr_core.specs.Feed.{items_of}
use Rattle.vdr_core.specs.Taken.{Captured}
use Rattle.vdr_core.specs.Replay.{rest_after}
use Rattle.vdr_feed.specs.declared.item.Item.{Item as Held}
use Rattle.vdr_run.specs.declared.ports.Ports.{Ports}

-- The items that are no recordable datagrams. No queue is full, and what the rate refuses is counted elsewhere.
abbrev pub totals_of : List Item → Counts
totals_of items = record {
  full = 0;
  rate = 0;
  bad = count_by (λ i. is_bad (verdict i.bytes)) items;
  large = count_by (λ i. is_large (verdict i.bytes)) items;
}

-- The count of a group's port after this part of a feed.
abbrev pub tally_after : List FeedItem → ℕ → Tally
tally_after feed g = record { taken = length (items_of g feed); missed = rest_after feed g; totals = totals_of (items_of g feed) }

abbrev pub tally_of : Ports → ℕ → Tally
tally_of ports g = slice_index_or ports.tallies g no_tally

-- Each port's count is that of this part of a feed.
pub record CountsFeed (feed : List FeedItem) (ports : Ports) : Type 0 where
  pub sixteen : length ports.tallies ≡ 16
  pub each : (g : ℕ) → g < 16 → tally_of ports g ≡ tally_after feed g

-- The item with what is told of it where it is recordable: its number, and what its port missed before it.
abbrev pub pushed_as : Held → Option (ℕ × Counts) → List Captured
pushed_as item None = []
pushed_as item (Some told) =
    record { group = item.group; number = told.0; received = item.received; utc = item.utc; missed = told.1; bytes = item.bytes.items } ∷ []

-- What a maker has counted and made of the items that were taken in a run.
use Rattle.std.specs.Prelude.{ℕ, zero, suc, ◌+◌, ◌≡◌, ◌≢◌, ◌≤◌, ◌<◌, List, [], ◌++◌, length, slice_index_or, slice_set}
use Rattle.vdr_terms.specs.declared.counts.Counts.{Counts}
use Rattle.vdr_terms.specs.Records.{Record, none_missed, total}
use Rattle.vdr_terms.specs.Channels.{Channels}
use Rattle.vdr_terms.specs.Counting.{next_number}
use Rattle.vdr_config.specs.Configuration.{Configuration}
use Rattle.vdr_datagram.specs.Channels.{channels_of}
use Rattle.vdr_core.specs.Runs.{RunStart, base_of}
use Rattle.vdr_core.specs.Taken.{Captured}
use Rattle.vdr_core.specs.Recorder.{next_in, recorder_after, closing, closed_run}
use Rattle.vdr_core.specs.Sums.{recorded_in, counted_by}
use Rattle.vdr_run.specs.Accounts.{Counted, nothing_counted, with_recorded, with_rest, gap_after, gap_records, item_records}
use Rattle.vdr_run.specs.declared.maker.ItemHead.{ItemHead}
use Rattle.vdr_run.specs.declared.maker.Maker.{Maker}
use Rattle.vdr_run.specs.Meters.{IsMetered, rates_of}

-- What the maker has counted of a group.
abbrev pub counted_of : Maker → ℕ → Counted
counted_of maker g = slice_index_or maker.accounts g nothing_counted

-- It has counted the items of these that are recorded, and those that the rate refused.
pub record CountsItems (start : RunStart) (popped : List Captured) (maker : Maker) : Type 0 where
  pub recorded : (g : ℕ) → g < 16 → (counted_of maker g).recorded ≡ recorded_in g (recorder_after start popped).made
  pub refused : (g : ℕ) → g < 16 → (counted_of maker g).refused ≡ (counted_by (recorder_after start popped) g).rate

-- It has taken these items in a run that began so.
pub record Makes (config : Configuration) (start : RunStart) (popped : List Captured) (maker : Maker) : Type 0 where
  pub channels : start.channels ≡ channels_of config
  pub base : maker.base ≡ base_of start
  pub greatest : maker.greatest ≡ (recorder_after start popped).greatest
  pub utc : maker.utc ≡ (recorder_after start popped).utc
  pub place : maker.place ≡ next_in start (recorder_after start popped).made
  pub sixteen : length maker.accounts ≡ 16
  pub pending : (g : ℕ) → g < 16 → (counted_of maker g).pending ≡ (recorder_after start popped).pending g
  pub counts : CountsItems start popped maker
  pub metered : IsMetered start.limits maker.meter (recorder_after start popped).made

-- The buffer has the last records of the run so far, behind these.
abbrev pub EndsWithBuffer : RunStart → List Captured → List Record → Maker → Type 0
EndsWithBuffer start popped before maker = (recorder_after start popped).made ≡ before ++ maker.records.items

-- What each port missed at the end.
abbrev pub rest_of : List Counts → ℕ → Counts
rest_of rest g = slice_index_or rest g none_missed

-- How the run is closed in which these items were taken.
unfoldable pub closing_by : RunStart → List Captured → List Counts → List Record
closing_by start popped rest = closing start (recorder_after start popped) (rest_of rest)

-- The run in which these items were taken, and that is closed.
unfoldable pub run_closed_by : RunStart → List Captured → List Counts → List Record
run_closed_by start popped rest = closed_run start popped (rest_of rest)

-- The item as it is taken.
abbrev pub item_told : ItemHead → List ℕ → Captured
item_told item bytes = record { group = item.group; number = item.number; received = item.received; utc = item.utc; missed = item.missed; bytes = bytes }

-- These records were added, and nothing but the next place changed besides.
pub record Adds (more : List Record) (before after : Maker) : Type 0 where
  pub base : after.base ≡ before.base
  pub greatest : after.greatest ≡ before.greatest
  pub utc : after.utc ≡ before.utc
  pub place : after.place ≡ before.place + length more
  pub accounts : after.accounts ≡ before.accounts
  pub meter : after.meter ≡ before.meter
  pub records : after.records.items ≡ before.records.items ++ more
  pub room : before.records.capacity ≤ after.records.capacity

-- The records of an item under the maker's present tick and stamp.
abbrev pub records_at : Channels → Maker → Captured → List Record
records_at channels maker c =
    item_records channels c.group maker.place c.number (maker.base + maker.greatest) maker.utc c.bytes (gap_after c.missed (counted_of maker c.group).pending)

-- The records of an item were added, and it is counted.
pub record RecordsItem (channels : Channels) (c : Captured) (before after : Maker) : Type 0 where
  pub base : after.base ≡ before.base
  pub greatest : after.greatest ≡ before.greatest
  pub utc : after.utc ≡ before.utc
  pub place : after.place ≡ before.place + length (records_at channels before c)
  pub accounts : after.accounts ≡ slice_set before.accounts c.group (with_recorded c.missed (counted_of before c.group))
  pub meter : after.meter ≡ before.meter
  pub records : after.records.items ≡ before.records.items ++ records_at channels before c
  pub room : before.records.capacity ≤ after.records.capacity

-- It has taken these items, and the buffer has the records behind these.
pub record IsMaking (config : Configuration) (start : RunStart) (popped : List Captured) (before : List Record) (maker : Maker) : Type 0 where
  pub makes : Makes config start popped maker
  pub ends : EndsWithBuffer start popped before maker

-- An item was taken: so much it takes of the maker's room. The run began as before, by the same rates, and its tick does not fall.
pub record TakesOne (before after : Maker) (c : Captured) : Type 0 where
  pub base : after.base ≡ before.base
  pub later : before.greatest ≤ after.greatest
  pub rates : rates_of after.meter ≡ rates_of before.meter
  pub place : after.place + length before.records.items ≡ before.place + length after.records.items
  pub records : length after.records.items ≤ length before.records.items + 2
  pub room : before.records.capacity ≤ after.records.capacity
  pub own : next_number (counted_of after c.group).pending ≡ next_number (counted_of before c.group).pending + total c.missed + 1
  pub others : (g : ℕ) → c.group ≢ g → counted_of after g ≡ counted_of before g

-- The closing gaps of the groups below n, under the maker's present tick and stamp.
abbrev pub gaps_made : ℕ → Channels → Maker → List Counts → List Record
gaps_made zero channels maker rest = []
gaps_made (suc g) channels maker rest =
    gaps_made g channels maker rest
    ++ gap_records channels g (maker.place + length (gaps_made g channels maker rest)) (maker.base + maker.greatest) maker.utc (gap_after (rest_of rest g) (counted_of maker g).pending)

-- The groups below n have their closing gaps.
pub record ClosesBelow (n : ℕ) (channels : Channels) (rest : List Counts) (before after : Maker) : Type 0 where
  pub base : after.base ≡ before.base
  pub greatest : after.greatest ≡ before.greatest
  pub utc : after.utc ≡ before.utc
  pub place : after.place ≡ before.place + length (gaps_made n channels before rest)
  pub sixteen : length after.accounts ≡ length before.accounts
  pub closed : (g : ℕ) → g < n → counted_of after g ≡ with_rest (rest_of rest g) (counted_of before g)
  pub others : (g : ℕ) → n ≤ g → counted_of after g ≡ counted_of before g
  pub meter : after.meter ≡ before.meter
  pub records : after.records.items ≡ before.records.items ++ gaps_made n channels before rest
  pub room : before.records.capacity ≤ after.records.capacity

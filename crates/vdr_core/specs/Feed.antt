-- The history of a feed: what `review` prints and `replay` records (this project's profile). A feed stands for one run
-- with no queue between: each recordable item is taken as it is read.
use Rattle.std.specs.Prelude.{ℕ, zero, suc, ◌+◌, max, ℤ, List, [], ◌∷◌, ◌++◌, length, drop, map, filter, fold, count_by, ◌&&◌, ◌==◌, if◌then◌else◌, Option, Some, None}
use Rattle.vdr_terms.specs.declared.counts.Counts.{Counts}
use Rattle.vdr_terms.specs.Records.{Record, Item, FeedItem, second, datagrams_of, last}
use Rattle.vdr_terms.specs.Records.Content.{Start, Datagram, Gap, Stop}
use Rattle.vdr_terms.specs.Datagrams.{verdict, is_yes, is_bad, is_large}
use Rattle.vdr_terms.specs.Rates.{is_admitted}
use Rattle.vdr_terms.specs.Channels.{Channels}
use Rattle.vdr_core.specs.Runs.{RunStart, base_of, utc_after}
use Rattle.vdr_core.specs.Recorder.{make}

abbrev pub items_of : ℕ → List FeedItem → List Item
items_of g feed = map (λ x. x.item) (filter (λ x. x.group == g) feed)

-- The recordable items, in the feed's order.
abbrev pub recordable : List FeedItem → List Item
recordable feed = filter (λ i. is_yes (verdict i.bytes)) (map (λ x. x.item) feed)

-- The tick after these items: the base plus the greatest `received` of the recordable ones.
abbrev pub tick_after : ℕ → List FeedItem → ℕ
tick_after base feed = base + fold (λ greatest i. max greatest i.received) 0 (recordable feed)

abbrev pub utc_of : Option Item → ℤ → ℤ
utc_of None before = before
utc_of (Some i) before = i.utc

-- The utc of the last recordable item, else that of what came before the run.
abbrev pub utc_last : RunStart → List FeedItem → ℤ
utc_last start feed = utc_of (last (recordable feed)) (utc_after start.last)

-- The number after the group's last Datagram.
abbrev pub number_after : Option Record → ℕ
number_after None = 0
number_after (Some d) = suc d.number

-- The items that the group missed since its last Datagram.
abbrev pub missed_since : ℕ → List Record → List FeedItem → List Item
missed_since g made feed = drop (number_after (last (datagrams_of g made))) (items_of g feed)

-- The counts of missed items where no queue stands between.
abbrev pub counts_of : List Item → Counts
counts_of items = record {
  full = 0;
  rate = count_by (λ i. is_yes (verdict i.bytes)) items;
  bad = count_by (λ i. is_bad (verdict i.bytes)) items;
  large = count_by (λ i. is_large (verdict i.bytes)) items;
}

-- The Gap of a group, if it missed anything.
abbrev pub gap_for : Channels → ℕ → ℕ → ℕ → ℕ → ℤ → List Item → List Record
gap_for channels g place number tick utc [] = []
gap_for channels g place number tick utc (i ∷ is) = make channels g place number tick utc (Gap (counts_of (i ∷ is))) ∷ []

-- The Gap of the group after what was made of this part of the feed.
abbrev pub gap_after : RunStart → ℕ → ℕ → ℤ → List Record → List FeedItem → List Record
gap_after start g tick utc made feed =
    gap_for start.channels g (start.place + length made) (number_after (last (datagrams_of g made))) tick utc (missed_since g made feed)

-- These records and, with the next places, the item's Datagram.
abbrev pub and_datagram : RunStart → FeedItem → ℕ → ℕ → List Record → List Record
and_datagram start x number tick made =
    made ++ make start.channels x.group (start.place + length made) number tick x.item.utc (Datagram x.item.bytes) ∷ []

-- The records after one more item: as before, or with its Datagram, and before it a Gap where its group missed anything.
abbrev pub made_after : RunStart → ℕ → FeedItem → List Record → List FeedItem → List Record
made_after start tick x made feed =
    if is_yes (verdict x.item.bytes) && is_admitted (start.limits x.group) made x.group (second tick) (length x.item.bytes)
    then and_datagram start x (length (items_of x.group feed)) tick (made ++ gap_after start x.group tick x.item.utc made feed)
    else made

-- The closing gaps of the groups below n, in order.
abbrev pub closing_gaps : ℕ → RunStart → ℕ → ℤ → List Record → List FeedItem → List Record
closing_gaps zero start tick utc made feed = made
closing_gaps (suc g) start tick utc made feed =
    closing_gaps g start tick utc made feed
    ++ gap_for start.channels g (start.place + length (closing_gaps g start tick utc made feed)) (number_after (last (datagrams_of g made))) tick utc (missed_since g made feed)

-- The run closed: the closing gaps, then Stop.
abbrev pub closed : RunStart → ℕ → List Record → List FeedItem → List Record
closed start base made feed =
    let gaps = closing_gaps 16 start (tick_after base feed) (utc_last start feed) made feed in
    gaps ++ make start.channels 255 (start.place + length gaps) 0 (tick_after base feed) (utc_last start feed) Stop ∷ []

-- From what was made of the items so far, through the items that are left, to the end of the run.
abbrev pub feed_along : RunStart → ℕ → List Record → List FeedItem → List FeedItem → List Record
feed_along start base made feed [] = closed start base made feed
feed_along start base made feed (x ∷ xs) =
    feed_along start base (made_after start (tick_after base (feed ++ x ∷ [])) x made feed) (feed ++ x ∷ []) xs

-- The records of a run over these items: Start, what they leave, closing gaps and Stop.
abbrev pub feed_records : RunStart → List FeedItem → List Record
feed_records start items =
    feed_along start (base_of start)
    (make start.channels 255 start.place 0 (base_of start) (utc_after start.last) Start ∷ []) [] items

-- What a run adds up to: the sums that a summary tells, and what one more item adds to them.
use Rattle.std.specs.Prelude.{ℕ, ◌+◌, ◌≡◌, ◌≢◌, List, length, count_by, cond}
use Rattle.vdr_terms.specs.declared.counts.Counts.{Counts}
use Rattle.vdr_terms.specs.Records.{Item, FeedItem}
use Rattle.vdr_terms.specs.Datagrams.{verdict, is_yes}
use Rattle.vdr_terms.specs.Counting.{merged, one_rate}
use Rattle.vdr_core.specs.Runs.{RunStart}
use Rattle.vdr_core.specs.Feed.{items_of, feed_records}
use Rattle.vdr_core.specs.Recorder.{Recorder, admits, took, recorder_after, closed_run}
use Rattle.vdr_core.specs.Taken.{Captured, AllFeed, of_group}
use Rattle.vdr_core.specs.Sums.{Sums, missed_in, recorded_in, missed_before, counted_by}
use Rattle.vdr_core.specs.FullCounts.{AreFullSteps, FullCounts}
use Rattle.vdr_core.specs.Replay.{IsOfGroups}

-- A closed run adds up to what each port gave. What its Gaps say of full queues is what the items and the counts at the end say of them.
abbrev pub ClosedRunsAddUp : RunStart → Type 0
ClosedRunsAddUp start = (items : List Captured) (rest : ℕ → Counts) (given : ℕ → List Item) → AllFeed items rest given → (g : ℕ)
    → Sums g (given g) (length (of_group g items)) ((missed_before (of_group g items)).full + (rest g).full) (closed_run start items rest)

-- Its full counts are the full steps of each queue's feeder, whatever the capacity.
abbrev pub ClosedRunsCountFull : RunStart → Type 0
ClosedRunsCountFull start = (items : List Captured) (rest : ℕ → Counts) (given : ℕ → List Item) → AllFeed items rest given → (g capacity full_steps : ℕ)
    → AreFullSteps capacity full_steps (of_group g items) (rest g)
    → FullCounts capacity full_steps g (of_group g items) (rest g) (given g) (closed_run start items rest)

-- The history of a feed adds up to the feed: each recordable item is popped, and no queue is full.
abbrev pub FeedsAddUp : RunStart → Type 0
FeedsAddUp start = (feed : List FeedItem) → IsOfGroups feed → (g : ℕ)
    → Sums g (items_of g feed) (count_by (λ i. is_yes (verdict i.bytes)) (items_of g feed)) 0 (feed_records start feed)

-- What one more item adds to its group's sums: what its port missed before it, and the item, as recorded or as refused by the rate.
pub record ItemAddsUp (start : RunStart) (r : Recorder) (c : Captured) : Type 0 where
  pub recorded : recorded_in c.group (took start r c).made ≡ recorded_in c.group r.made + cond (admits start r c) 1 0
  pub counted : counted_by (took start r c) c.group ≡ merged (counted_by r c.group) (cond (admits start r c) c.missed (one_rate c.missed))
  pub others : (g : ℕ) → c.group ≢ g → (recorded_in g (took start r c).made ≡ recorded_in g r.made) × (counted_by (took start r c) g ≡ counted_by r g)

-- What a close adds to a group's sums: what its port missed at the end.
pub record CloseAddsUp (start : RunStart) (items : List Captured) (rest : ℕ → Counts) (g : ℕ) : Type 0 where
  pub recorded : recorded_in g (closed_run start items rest) ≡ recorded_in g (recorder_after start items).made
  pub missed : missed_in g (closed_run start items rest) ≡ merged (counted_by (recorder_after start items) g) (rest g)

-- A feed as the recorder takes it: one item after the other, with no queue between.
use Rattle.std.specs.Prelude.{ℕ, suc, ◌+◌, ◌*◌, ◌≡◌, ◌≢◌, ◌≤◌, Bool, List, [], ◌∷◌, ◌++◌, length, fold, if◌then◌else◌}
use Rattle.vdr_terms.specs.declared.counts.Counts.{Counts}
use Rattle.vdr_terms.specs.Records.{Item, FeedItem, none_missed, total}
use Rattle.vdr_terms.specs.declared.datagram.Verdict.{Verdict}
use Rattle.vdr_terms.specs.declared.datagram.Verdict.TheVariants.{Yes, Bad, Large}
use Rattle.vdr_terms.specs.Datagrams.{verdict, is_yes}
use Rattle.vdr_terms.specs.Counting.{next_number, one_bad, one_large}
use Rattle.vdr_core.specs.Accounts.{Accounts}
use Rattle.vdr_core.specs.Runs.{RunStart, base_of}
use Rattle.vdr_core.specs.Feed.{items_of, counts_of, feed_records}
use Rattle.vdr_core.specs.Recorder.{Recorder, recorder_after, taken_all, closed_run}
use Rattle.vdr_core.specs.Taken.{Captured, AllFeed}
use Rattle.vdr_core.specs.Law.{IsRun}

-- The items at the end that come after the last recordable one.
abbrev pub since_yes : List Item → List Item
since_yes items = fold (λ since i. if is_yes (verdict i.bytes) then [] else since ++ i ∷ []) [] items

-- The item after this part of the feed, with what its group missed since its last recordable item.
abbrev pub captured_after : List FeedItem → FeedItem → Captured
captured_after feed x = record {
  group = x.group;
  number = length (items_of x.group feed);
  received = x.item.received;
  utc = x.item.utc;
  missed = counts_of (since_yes (items_of x.group feed));
  bytes = x.item.bytes;
}

abbrev pub captured_if : Bool → List FeedItem → FeedItem → List Captured
captured_if is_recordable feed x = if is_recordable then captured_after feed x ∷ [] else []

-- What is taken of these items after this part of the feed.
abbrev pub taken_of : List FeedItem → List FeedItem → List Captured
taken_of feed [] = []
taken_of feed (x ∷ xs) = captured_if (is_yes (verdict x.item.bytes)) feed x ++ taken_of (feed ++ x ∷ []) xs

-- What each group missed at the end.
abbrev pub rest_after : List FeedItem → ℕ → Counts
rest_after feed g = counts_of (since_yes (items_of g feed))

-- The feed's history is the run in which its recordable items are taken.
abbrev pub IsReplay : RunStart → Type 0
IsReplay start = (feed : List FeedItem) → feed_records start feed ≡ closed_run start (taken_of [] feed) (rest_after feed)

abbrev pub IsOfGroups : List FeedItem → Type 0
IsOfGroups feed = (g : ℕ) → 16 ≤ g → items_of g feed ≡ []

-- What is taken of the feed, and counted at its end, is what the feed has of each group.
abbrev pub IsAllTaken : List FeedItem → Type 0
IsAllTaken feed = AllFeed (taken_of [] feed) (rest_after feed) (λ g. items_of g feed)

-- The feed's history accounts for what the feed has of each group.
abbrev pub FeedAccounts : RunStart → Type 0
FeedAccounts start = (feed : List FeedItem) → IsOfGroups feed → (g : ℕ) → Accounts (start.limits g) (base_of start) (feed_records start feed) g (items_of g feed)

-- The feed's history has the next places, its bits, and the ticks of what the feed gave.
abbrev pub FeedsAreRuns : RunStart → Type 0
FeedsAreRuns start = (feed : List FeedItem) → IsOfGroups feed → IsRun start (λ g. items_of g feed) (feed_records start feed)

-- The recorder after this part of a feed.
abbrev pub fed : RunStart → List FeedItem → Recorder
fed start feed = recorder_after start (taken_of [] feed)

-- What a port missed since its last push, after one more item: a recordable one is pushed.
abbrev pub missed_with : Verdict → Counts → Counts
missed_with Yes missed = none_missed
missed_with Bad missed = one_bad missed
missed_with Large missed = one_large missed

-- What one more item changes: it is taken where it is recordable, it counts in its group, and other groups stay as they were.
pub record GoesOn (start : RunStart) (feed : List FeedItem) (x : FeedItem) : Type 0 where
  pub recorder : fed start (feed ++ x ∷ []) ≡ taken_all start (fed start feed) (captured_if (is_yes (verdict x.item.bytes)) feed x)
  pub own_count : length (items_of x.group (feed ++ x ∷ [])) ≡ suc (length (items_of x.group feed))
  pub own_missed : rest_after (feed ++ x ∷ []) x.group ≡ missed_with (verdict x.item.bytes) (rest_after feed x.group)
  pub others : (g : ℕ) → x.group ≢ g → items_of g (feed ++ x ∷ []) ≡ items_of g feed

-- The items of a group are, in number, those before its pending ones, the pending ones, and those that its port missed since.
abbrev pub NumbersAddUp : RunStart → List FeedItem → ℕ → Type 0
NumbersAddUp start feed g = next_number ((fed start feed).pending g) + total (rest_after feed g) ≡ length (items_of g feed)

-- An item makes two records at most, its Datagram and the Gap before it, and the run has its Start besides.
abbrev pub RecordsAreFew : RunStart → List FeedItem → Type 0
RecordsAreFew start feed = length (fed start feed).made ≤ 2 * length feed + 1

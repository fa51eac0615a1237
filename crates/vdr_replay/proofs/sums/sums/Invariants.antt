use Rattle.std.proofs.Common.{◌≡◌, ◌<◌, ◌≤◌, ℕ, List, [], length, All, None, slice_index_or}
use Rattle.vdr_terms.specs.Records.{FeedItem}
use Rattle.vdr_core.specs.Feed.{items_of, feed_records}
use Rattle.vdr_core.specs.Runs.{RunStart}
use Rattle.vdr_core.specs.Replay.{taken_of}
use Rattle.vdr_run.specs.Making.{CountsItems}
use Rattle.vdr_run.specs.Given.{CountsFeed}
use Rattle.vdr_capture.specs.Sums.{sums_of}
use Rattle.vdr_replay.specs.Summary.{sums_if}
use Rattle.vdr_replay.proofs.sums.sums.Given as goal

abbrev pub invariant-loop-group : goal.invariant-loop-group
invariant-loop-group l = record {
  sixteen : length l.sums ≡ 16;
  each : (start : RunStart) (feed : List FeedItem) → All (λ i. i.group < 16) feed → CountsItems start (taken_of [] feed) l.recorder.maker → CountsFeed feed l.lanes.ports
      → (g : ℕ) → g < l.group → slice_index_or l.sums g None ≡ sums_if (slice_index_or l.recorder.vault.config.groups g None) (sums_of g (items_of g feed) (feed_records start feed));
  later : (g : ℕ) → l.group ≤ g → slice_index_or l.sums g None ≡ None;
}

use Rattle.std.proofs.Common.{◌≤◌, ◌+◌, ◌-◌, List}
use Rattle.vdr_terms.specs.Records.{FeedItem}
use Rattle.vdr_feed.specs.Feed.{longest_feed}
use Rattle.vdr_review.specs.Review.{limit_asked}
use Rattle.vdr_review.specs.Walks.{Tells}
use Rattle.vdr_feed.specs.Progress.{HasRead}
use Rattle.vdr_review.proofs.reading.review.Given as goal

abbrev pub invariant-loop-item : goal.invariant-loop-item
invariant-loop-item g l = record {
  walked : (feed : List FeedItem) × HasRead (g.I.Source.left l.fn.input) (g.I.Source.left l.input) l.reader feed × Tells (limit_asked l.fn.rate) l.walk feed;
  later : g.I.Source.faults l.fn.input ≤ g.I.Source.faults l.input;
}

abbrev pub decreases-loop-item : goal.decreases-loop-item
decreases-loop-item g l = longest_feed + 1 - l.reader.count

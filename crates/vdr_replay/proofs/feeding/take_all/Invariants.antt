use Rattle.std.proofs.Common.{◌≡◌, ◌≤◌, ◌+◌, ◌-◌, ℕ, List, [], true, false, Option}
use Rattle.vdr_terms.specs.Records.{FeedItem}
use Rattle.vdr_core.specs.Histories.{Event, Opening}
use Rattle.vdr_outside.specs.Causes.{NoneFalls}
use Rattle.vdr_media.specs.Formatted.{members_with}
use Rattle.vdr_vault.specs.Calls.{SameElsewhere}
use Rattle.vdr_vault.specs.Vaults.{AreRings}
use Rattle.vdr_feed.specs.Feed.{longest_feed}
use Rattle.vdr_recorder.specs.Watched.{IsWatched}
use Rattle.vdr_replay.specs.Given.{HoldsFeed}
use Rattle.vdr_feed.specs.Progress.{HasRead}
use Rattle.vdr_replay.specs.Taking.{HasTaken, TakesOn}
use Rattle.vdr_replay.proofs.feeding.take_all.Given as goal

abbrev pub invariant-loop-end : goal.invariant-loop-end
invariant-loop-end g l = record {
  walked : (feed : List FeedItem)
      × ((first : Option (List ℕ)) → HasRead first (g.I.Source.left l.fn.input) l.fn.reader [] → HasRead first (g.I.Source.left l.input) l.reader feed)
      × HoldsFeed l.fn.recorder.vault.config feed l.lanes l.recorder.maker
      × ((opening : Opening) (events : List Event) (t0 : ℕ) → g.M.Media.tells → HasTaken opening [] [] events t0 l.fn.recorder (g.M.Media.disk l.fn.media)
      → TakesOn opening feed l.lanes.batch.items events t0 l.recorder (g.M.Media.disk l.fn.media) (g.M.Media.disk l.media) g.W.Watch.hears (g.W.Watch.seen l.fn.watch) (g.W.Watch.seen l.watch));
  works : l.recorder.vault.failed ≡ false;
  watched : IsWatched g.W.Watch.hears (g.W.Watch.seen l.watch) l.recorder (g.M.Media.disk l.media);
  opened : l.recorder.is_open ≡ true;
  config : l.recorder.vault.config ≡ l.fn.recorder.vault.config;
  rings : AreRings l.recorder.vault (g.M.Media.disk l.media).sizes;
  others : g.M.Media.tells → SameElsewhere (members_with 0) (g.M.Media.disk l.fn.media).reads (g.M.Media.disk l.media).reads;
  sizes : (g.M.Media.disk l.media).sizes ≡ (g.M.Media.disk l.fn.media).sizes;
  falls : NoneFalls (g.M.Media.faults l.fn.media) (g.M.Media.faults l.media);
  later : g.I.Source.faults l.fn.input ≤ g.I.Source.faults l.input;
}

abbrev pub decreases-loop-end : goal.decreases-loop-end
decreases-loop-end g l = longest_feed + 1 - l.reader.count

use Rattle.vdr_feed.proofs.Legal.{is_feed}
use Rattle.vdr_feed.proofs.trial_law.law_of_generated_feeds.Goals as goal

pub returns : goal.returns
returns c = is_feed

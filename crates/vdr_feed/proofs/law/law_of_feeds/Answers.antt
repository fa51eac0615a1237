use Rattle.vdr_feed.proofs.law.law_of_feeds.Goals as goal
use Rattle.vdr_feed.proofs.Unique.{one_feed, no_feed_is_refused, one_refusal}

pub returns-clause-items : goal.returns-clause-items
returns-clause-items c = one_feed

pub returns-clause-feed : goal.returns-clause-feed
returns-clause-feed c = no_feed_is_refused

pub returns-clause-refusal : goal.returns-clause-refusal
returns-clause-refusal c = one_refusal

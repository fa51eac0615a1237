use Rattle.vdr_core.proofs.law_of_gaps.Goals as goal
use Rattle.vdr_core.proofs.EmptyGaps.{made_say, closed_say, feed_says}

pub returns-clause-made : goal.returns-clause-made
returns-clause-made c = made_say

pub returns-clause-closed : goal.returns-clause-closed
returns-clause-closed c = closed_say

pub returns-clause-feed : goal.returns-clause-feed
returns-clause-feed c = feed_says

use Rattle.vdr_durability.proofs.Joined.{lives_follow, lives_order, lives_show}
use Rattle.vdr_durability.proofs.joining.law_of_joined_runs.Goals as goal

pub returns-clause-follow : goal.returns-clause-follow
returns-clause-follow c = lives_follow

pub returns-clause-shows : goal.returns-clause-shows
returns-clause-shows c = lives_show

pub returns-clause-order : goal.returns-clause-order
returns-clause-order c = lives_order

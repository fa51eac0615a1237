use Rattle.vdr_durability.proofs.retention_law.law_of_victims.Goals as goal
use Rattle.vdr_durability.proofs.Choice.{may_go_by_numbers-decides}
use Rattle.vdr_durability.proofs.Needed.{candidate_is_older, oldest_or_none, one_victim, last_stays}
use Rattle.vdr_durability.proofs.Victims.{medium_has_victim}

pub returns-clause-exists : goal.returns-clause-exists
returns-clause-exists c = medium_has_victim

pub returns-clause-some : goal.returns-clause-some
returns-clause-some c = oldest_or_none

pub returns-clause-one : goal.returns-clause-one
returns-clause-one c = one_victim

pub returns-clause-newest : goal.returns-clause-newest
returns-clause-newest c = last_stays

pub returns-clause-numbers : goal.returns-clause-numbers
returns-clause-numbers c = may_go_by_numbers-decides

pub returns-clause-older : goal.returns-clause-older
returns-clause-older c = candidate_is_older

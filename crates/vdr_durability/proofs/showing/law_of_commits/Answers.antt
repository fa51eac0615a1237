use Rattle.vdr_durability.proofs.showing.law_of_commits.Goals as goal
use Rattle.vdr_durability.proofs.Shows.{level_shows, commit_shows, shows_silent}

pub returns-clause-level : goal.returns-clause-level
returns-clause-level c = level_shows

pub returns-clause-passed : goal.returns-clause-passed
returns-clause-passed c = commit_shows

pub returns-clause-silent : goal.returns-clause-silent
returns-clause-silent c = shows_silent

use Rattle.vdr_vault.proofs.law.law_of_vaults.Goals as goal
use Rattle.vdr_vault.proofs.ShownHistory.{stand_shows, stands_silent, stands_still}

pub returns-clause-shows : goal.returns-clause-shows
returns-clause-shows g c opening events vault placed = stand_shows opening events vault placed (g.M.Media.disk c.args.new.now)

pub returns-clause-still : goal.returns-clause-still
returns-clause-still g c opening events vault placed = stands_still opening events vault placed (g.M.Media.disk c.args.old.now) (g.M.Media.disk c.args.new.now)

pub returns-clause-silent : goal.returns-clause-silent
returns-clause-silent g c opening events e vault placed none kept = stands_silent opening events e none kept vault placed (g.M.Media.disk c.args.new.now)

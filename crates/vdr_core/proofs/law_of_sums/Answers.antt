use Rattle.vdr_core.proofs.law_of_sums.Goals as goal
use Rattle.vdr_core.proofs.Sums.{made_add_up}
use Rattle.vdr_core.proofs.RunSums.{close_adds_up, closed_sums, feed_sums, item_adds_up}

pub returns-clause-closed : goal.returns-clause-closed
returns-clause-closed c = closed_sums

pub returns-clause-feed : goal.returns-clause-feed
returns-clause-feed c = feed_sums

pub returns-clause-item : goal.returns-clause-item
returns-clause-item c = item_adds_up

pub returns-clause-so_far : goal.returns-clause-so_far
returns-clause-so_far c = made_add_up

pub returns-clause-close : goal.returns-clause-close
returns-clause-close c = close_adds_up

use Rattle.vdr_durability.proofs.pace_law.law_of_sizes.Goals as goal
use Rattle.vdr_durability.proofs.ItemSizes.{closes_size, few_fit, fit_few, made_size}

pub returns-clause-items : goal.returns-clause-items
returns-clause-items c = made_size

pub returns-clause-few : goal.returns-clause-few
returns-clause-few c = few_fit

pub returns-clause-count : goal.returns-clause-count
returns-clause-count c = fit_few

pub returns-clause-close : goal.returns-clause-close
returns-clause-close c = closes_size

use Rattle.vdr_core.proofs.law_of_item.Goals as goal
use Rattle.vdr_core.proofs.OneMore.{goes_on, numbers_add_up, records_are_few}

pub returns-clause-goes_on : goal.returns-clause-goes_on
returns-clause-goes_on c = goes_on

pub returns-clause-numbers : goal.returns-clause-numbers
returns-clause-numbers c = numbers_add_up

pub returns-clause-few : goal.returns-clause-few
returns-clause-few c = records_are_few

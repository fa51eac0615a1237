use Rattle.vdr_durability.proofs.pace_law.law_of_pace.Goals as goal
use Rattle.vdr_durability.proofs.Media.{seconds_paced, is_paced, all_made}

pub returns-clause-seconds : goal.returns-clause-seconds
returns-clause-seconds c = seconds_paced

pub returns-clause-batch : goal.returns-clause-batch
returns-clause-batch c = is_paced

pub returns-clause-made : goal.returns-clause-made
returns-clause-made c = all_made

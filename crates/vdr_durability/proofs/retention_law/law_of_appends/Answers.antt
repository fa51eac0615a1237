use Rattle.vdr_durability.proofs.retention_law.law_of_appends.Goals as goal
use Rattle.vdr_durability.proofs.Appended.{close_retains, begin_retains, batch_retains}

pub returns-clause-closed : goal.returns-clause-closed
returns-clause-closed c = close_retains

pub returns-clause-begun : goal.returns-clause-begun
returns-clause-begun c = begin_retains

pub returns-clause-batch : goal.returns-clause-batch
returns-clause-batch c = batch_retains

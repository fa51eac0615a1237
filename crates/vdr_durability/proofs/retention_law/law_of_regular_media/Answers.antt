use Rattle.vdr_durability.proofs.retention_law.law_of_regular_media.Goals as goal
use Rattle.vdr_durability.proofs.Appended.{remove_stays_paced}
use Rattle.vdr_durability.proofs.Paced.{remove_stays_regular, begin_stays_regular, append_stays_regular, begin_stays_paced, full_where_unfit}

pub returns-clause-closed : goal.returns-clause-closed
returns-clause-closed c = remove_stays_regular

pub returns-clause-begun : goal.returns-clause-begun
returns-clause-begun c = begin_stays_regular

pub returns-clause-batch : goal.returns-clause-batch
returns-clause-batch c = append_stays_regular

pub returns-clause-paced_closed : goal.returns-clause-paced_closed
returns-clause-paced_closed c = remove_stays_paced

pub returns-clause-paced_begun : goal.returns-clause-paced_begun
returns-clause-paced_begun c = begin_stays_paced

pub returns-clause-full : goal.returns-clause-full
returns-clause-full c = full_where_unfit

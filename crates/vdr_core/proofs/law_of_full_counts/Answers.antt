use Rattle.vdr_core.proofs.law_of_full_counts.Goals as goal
use Rattle.vdr_core.proofs.FullCounts.{closed_counts}

pub returns : goal.returns
returns c = closed_counts

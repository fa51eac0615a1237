use Rattle.vdr_thin.proofs.Counting.{each_counts}
use Rattle.vdr_thin.proofs.laws.law_of_counts.Goals as goal

pub returns : goal.returns
returns c = each_counts

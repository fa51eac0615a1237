use Rattle.vdr_thin.proofs.Bounding.{runs_few}
use Rattle.vdr_thin.proofs.laws.law_of_bounds.Goals as goal

pub returns : goal.returns
returns c = runs_few

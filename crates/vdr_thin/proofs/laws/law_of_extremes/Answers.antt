use Rattle.vdr_thin.proofs.Extremes.{extremes_shown}
use Rattle.vdr_thin.proofs.laws.law_of_extremes.Goals as goal

pub returns : goal.returns
returns c = extremes_shown

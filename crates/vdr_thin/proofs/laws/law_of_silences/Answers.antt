use Rattle.vdr_thin.proofs.Cutting.{readings_cut}
use Rattle.vdr_thin.proofs.laws.law_of_silences.Goals as goal

pub returns : goal.returns
returns c = readings_cut

use Rattle.vdr_index.proofs.StepLemmas.{one_ahead}
use Rattle.vdr_index.proofs.survey_law.law_of_positions.Goals as goal

pub returns : goal.returns
returns c = one_ahead

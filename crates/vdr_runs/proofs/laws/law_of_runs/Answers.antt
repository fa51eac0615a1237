use Rattle.vdr_runs.proofs.Texts.{all_told}
use Rattle.vdr_runs.proofs.laws.law_of_runs.Goals as goal

pub returns : goal.returns
returns c = all_told

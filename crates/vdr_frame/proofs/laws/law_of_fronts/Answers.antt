use Rattle.vdr_frame.proofs.FrontLemmas.{front_decides}
use Rattle.vdr_frame.proofs.laws.law_of_fronts.Goals as goal

pub returns : goal.returns
returns c = front_decides

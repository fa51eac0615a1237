use Rattle.vdr_control.proofs.PlayLemmas.{one_play}
use Rattle.vdr_control.proofs.laws.law_of_plays.Goals as goal

pub returns : goal.returns
returns c = one_play c.law_of_stamps.ensures

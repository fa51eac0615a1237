use Rattle.vdr_watch.proofs.Latest.{are_latest}
use Rattle.vdr_watch.proofs.laws.law_of_latest.Goals as goal

pub returns : goal.returns
returns c = are_latest

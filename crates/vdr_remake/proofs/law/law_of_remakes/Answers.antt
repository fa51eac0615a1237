use Rattle.vdr_remake.proofs.law.law_of_remakes.Goals as goal
use Rattle.vdr_remake.proofs.Windows.{newest_hold, newest_regular}

pub returns : goal.returns
returns c = record { window = newest_hold; regular = newest_regular }

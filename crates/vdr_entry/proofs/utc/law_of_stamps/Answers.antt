use Rattle.vdr_entry.proofs.StampLemmas.{one_stamp}
use Rattle.vdr_entry.proofs.utc.law_of_stamps.Goals as goal

pub returns : goal.returns
returns c = one_stamp

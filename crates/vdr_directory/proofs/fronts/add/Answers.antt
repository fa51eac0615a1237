use Rattle.vdr_directory.proofs.FrontLemmas.{entry_pushed}
use Rattle.vdr_directory.proofs.fronts.add.Goals as goal

pub returns : goal.returns
returns c = entry_pushed _ _ _ _ _ c.in-Some.is c.in_ok-push.ensures.items

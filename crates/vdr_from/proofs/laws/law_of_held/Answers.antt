use Rattle.vdr_from.proofs.HeldLemmas.{selects_as_media}
use Rattle.vdr_from.proofs.laws.law_of_held.Goals as goal

pub returns : goal.returns
returns c = record { same = selects_as_media }

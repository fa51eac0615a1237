use Rattle.vdr_frame.proofs.ItemLemmas.{found_item}
use Rattle.vdr_frame.proofs.laws.law_of_items.Goals as goal

pub returns : goal.returns
returns c = found_item

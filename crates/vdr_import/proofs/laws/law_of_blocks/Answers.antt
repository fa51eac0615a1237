use Rattle.vdr_import.proofs.SectionLemmas.{blocks_read_back}
use Rattle.vdr_import.proofs.laws.law_of_blocks.Goals as goal

pub returns : goal.returns
returns c = blocks_read_back

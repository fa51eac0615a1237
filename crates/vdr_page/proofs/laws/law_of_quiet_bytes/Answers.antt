use Rattle.vdr_page.proofs.QuietRows.{block_is_quiet}
use Rattle.vdr_page.proofs.laws.law_of_quiet_bytes.Goals as goal

pub returns : goal.returns
returns c = block_is_quiet

use Rattle.vdr_page.proofs.Joining.{page_is_printed}
use Rattle.vdr_page.proofs.laws.law_of_pages.Goals as goal

pub returns : goal.returns
returns c = page_is_printed

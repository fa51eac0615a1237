use Rattle.vdr_page.proofs.ShownTexts.{rows_are_shown}
use Rattle.vdr_page.proofs.laws.law_of_rows.Goals as goal

pub returns : goal.returns
returns c = rows_are_shown

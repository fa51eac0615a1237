use Rattle.vdr_page.proofs.Missing.{gap_rows_add_up}
use Rattle.vdr_page.proofs.laws.law_of_gap_rows.Goals as goal

pub returns : goal.returns
returns c = gap_rows_add_up

use Rattle.vdr_rows.proofs.Counted.{rows_told}
use Rattle.vdr_rows.proofs.laws.law_of_rows.Goals as goal

pub returns : goal.returns
returns c = rows_told

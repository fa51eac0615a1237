use Rattle.vdr_rows.proofs.TableLemmas.{table_printed}
use Rattle.vdr_rows.proofs.laws.law_of_table.Goals as goal

pub returns : goal.returns
returns c = table_printed

use Rattle.vdr_import.proofs.Sums.{counts_add_up}
use Rattle.vdr_import.proofs.laws.law_of_accounts.Goals as goal

pub returns : goal.returns
returns c = counts_add_up

-- The parts, one behind the other.
use Rattle.std.proofs.Common.{rules}
use Rattle.vdr_import.specs.AccountTexts.{account_text}
use Rattle.vdr_import.proofs.account_text.account_text.Goals as goal

pub returns : goal.returns
unfolding account_text
returns c = search rules

use Rattle.vdr_base64.proofs.Printed.{lines_are_printed}
use Rattle.vdr_base64.proofs.laws.law_of_printing.Goals as goal

pub returns : goal.returns
returns c = lines_are_printed

use Rattle.std.proofs.Common.{◌∙◌, sym}
use Rattle.vdr_base64.proofs.Pieces.{none_left}
use Rattle.vdr_base64.proofs.printer.Base64Printer.new.Goals as goal

pub returns-clause-pending : goal.returns-clause-pending
returns-clause-pending g c = c.new.ensures ∙ sym none_left

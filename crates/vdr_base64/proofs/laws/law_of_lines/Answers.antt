use Rattle.vdr_base64.proofs.Pieces.{lines_are_read}
use Rattle.vdr_base64.proofs.laws.law_of_lines.Goals as goal

pub returns : goal.returns
returns c = lines_are_read

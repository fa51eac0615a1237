use Rattle.std.proofs.Common.{subst}
use Rattle.vdr_datagram.specs.Lines.{IsCutting}
use Rattle.vdr_datagram.proofs.CutLemmas.{cut-is, cut-only}
use Rattle.vdr_datagram.proofs.laws.law_of_cutting.Goals as goal

pub returns : goal.returns
returns c = λ bytes lines. ((λ e. subst (IsCutting bytes) e (cut-is bytes)), cut-only bytes lines)

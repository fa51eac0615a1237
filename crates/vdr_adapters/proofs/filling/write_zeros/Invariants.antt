use Rattle.std.proofs.Common.{◌*◌, min}
use Rattle.vdr_adapters.proofs.Zeros.{IsFilledTo}
use Rattle.vdr_adapters.proofs.filling.write_zeros.Given as goal

abbrev pub invariant-loop-piece : goal.invariant-loop-piece
invariant-loop-piece g l = IsFilledTo (g.F.MediumFile.seen l.initial.file) (g.F.MediumFile.seen l.file) (min (l.piece * 65536) l.size)

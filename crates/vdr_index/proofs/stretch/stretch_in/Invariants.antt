use Rattle.std.proofs.Common.{length}
use Rattle.vdr_index.proofs.StretchLemmas.{Midway}
use Rattle.vdr_index.proofs.stretch.stretch_in.Given as goal

abbrev pub invariant-loop-rest : goal.invariant-loop-rest
invariant-loop-rest l = Midway l.bytes l.rest l.stretch

abbrev pub decreases-loop-rest : goal.decreases-loop-rest
decreases-loop-rest l = length l.rest

use Rattle.std.proofs.Common.{length}
use Rattle.vdr_segment.proofs.WalkLemmas.{Left}
use Rattle.vdr_ring.proofs.visit.are_records.Given as goal

abbrev pub invariant-loop-rest : goal.invariant-loop-rest
invariant-loop-rest l = Left l.bytes l.rest

abbrev pub decreases-loop-rest : goal.decreases-loop-rest
decreases-loop-rest l = length l.rest

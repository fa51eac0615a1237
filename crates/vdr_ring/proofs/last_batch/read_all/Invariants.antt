use Rattle.std.proofs.Common.{length}
use Rattle.vdr_ring.proofs.LastBatch.{LeavesRecords}
use Rattle.vdr_ring.proofs.last_batch.read_all.Given as goal

abbrev pub invariant-loop-item : goal.invariant-loop-item
invariant-loop-item l = LeavesRecords l.bytes l.read.items l.rest

abbrev pub decreases-loop-item : goal.decreases-loop-item
decreases-loop-item l = length l.rest

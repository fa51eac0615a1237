use Rattle.std.proofs.Common.{◌-◌, length}
use Rattle.vdr_ring.proofs.LastBatch.{Walked}
use Rattle.vdr_ring.proofs.last_batch.last_records.Given as goal

abbrev pub invariant-loop-from : goal.invariant-loop-from
invariant-loop-from l = Walked l.segment l.end l.records

abbrev pub decreases-loop-from : goal.decreases-loop-from
decreases-loop-from l = length l.segment - l.end

use Rattle.std.proofs.Common.{take}
use Rattle.vdr_segment.proofs.BatchLemmas.{Written}
use Rattle.vdr_segment.proofs.batch.put_records.Given as goal

abbrev pub invariant-loop-item : goal.invariant-loop-item
invariant-loop-item l = Written l.fn.into l.into l.at l.end (take l.item-index l.records)

use Rattle.vdr_segment.proofs.SegmentLemmas.{one_segment, one_slot, written_segment}
use Rattle.vdr_segment.proofs.law.law_of_segments.Goals as goal

pub returns-clause-one : goal.returns-clause-one
returns-clause-one c = one_segment

pub returns-clause-slot : goal.returns-clause-slot
returns-clause-slot c = one_slot

pub returns-clause-written : goal.returns-clause-written
returns-clause-written c = written_segment

use Rattle.vdr_segment.proofs.Fronts.{front_same, front_joined, front_byte}
use Rattle.vdr_segment.proofs.slots_law.law_of_fronts.Goals as goal

pub returns-clause-same : goal.returns-clause-same
returns-clause-same c = front_same

pub returns-clause-joined : goal.returns-clause-joined
returns-clause-joined c = front_joined

pub returns-clause-byte : goal.returns-clause-byte
returns-clause-byte c = front_byte

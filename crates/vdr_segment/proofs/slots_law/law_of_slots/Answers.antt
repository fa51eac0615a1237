use Rattle.vdr_segment.proofs.Holding.{one_holding, slot_of, front_at, one_front}
use Rattle.vdr_segment.proofs.slots_law.law_of_slots.Goals as goal

pub returns-clause-one : goal.returns-clause-one
returns-clause-one c = one_holding

pub returns-clause-slot : goal.returns-clause-slot
returns-clause-slot c = slot_of

pub returns-clause-front : goal.returns-clause-front
returns-clause-front c = front_at

pub returns-clause-header : goal.returns-clause-header
returns-clause-header c = one_front

use Rattle.vdr_incident.proofs.Slot.{one_slot}
use Rattle.vdr_incident.proofs.Holding.{one_table, held_not_refused, one_refused}
use Rattle.vdr_incident.proofs.law.law_of_tables.Goals as goal

pub returns-clause-slot : goal.returns-clause-slot
returns-clause-slot c = one_slot

pub returns-clause-one : goal.returns-clause-one
returns-clause-one c = one_table

pub returns-clause-legal : goal.returns-clause-legal
returns-clause-legal c = held_not_refused

pub returns-clause-first : goal.returns-clause-first
returns-clause-first c = one_refused

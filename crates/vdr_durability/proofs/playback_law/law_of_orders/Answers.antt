use Rattle.vdr_durability.proofs.playback_law.law_of_orders.Goals as goal
use Rattle.vdr_durability.proofs.Orders.{may_come, records_nothing}

pub returns-clause-event : goal.returns-clause-event
returns-clause-event c = λ media opening events order some ends. may_come opening events some ends media order

pub returns-clause-silent : goal.returns-clause-silent
returns-clause-silent c = records_nothing

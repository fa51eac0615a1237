use Rattle.std.proofs.Common.{None}
use Rattle.vdr_directory.proofs.LastKnown.{in_order_legal, last_batch_known, last_record_known}
use Rattle.vdr_directory.proofs.TellingBy.{hold_all_by, hold_all_from, rise_known}
use Rattle.vdr_directory.proofs.law.law_of_knowns.Goals as goal

pub returns-clause-order : goal.returns-clause-order
returns-clause-order c placed legal order = in_order_legal placed legal order

pub returns-clause-rise : goal.returns-clause-rise
returns-clause-rise c placed order = rise_known None placed order

pub returns-clause-batch : goal.returns-clause-batch
returns-clause-batch c placed order = last_batch_known None placed order

pub returns-clause-record : goal.returns-clause-record
returns-clause-record c placed order = last_record_known None placed order

pub returns-clause-places : goal.returns-clause-places
returns-clause-places c a b placed order = (hold_all_from a b placed order, hold_all_by a b placed order)

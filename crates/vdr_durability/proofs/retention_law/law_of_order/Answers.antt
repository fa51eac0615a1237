use Rattle.vdr_durability.proofs.retention_law.law_of_order.Goals as goal
use Rattle.vdr_durability.proofs.Following.{follow_in_order, follow_no_earlier}
use Rattle.vdr_durability.proofs.Ordered.{run_on_in_order, append_held_in_order, remove_held_in_order}

pub returns-clause-run : goal.returns-clause-run
returns-clause-run c = run_on_in_order

pub returns-clause-follows : goal.returns-clause-follows
returns-clause-follows c = follow_in_order

pub returns-clause-later : goal.returns-clause-later
returns-clause-later c = follow_no_earlier

pub returns-clause-held : goal.returns-clause-held
returns-clause-held c = append_held_in_order

pub returns-clause-removed : goal.returns-clause-removed
returns-clause-removed c = remove_held_in_order

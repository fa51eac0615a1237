use Rattle.vdr_durability.proofs.soundness.law_of_unbroken_windows.Goals as goal
use Rattle.vdr_durability.proofs.Unbroken.{unbroken_along, unbroken_follows, unbroken_held, unbroken_less, unbroken_nothing, unbroken_shown}

pub returns-clause-nothing : goal.returns-clause-nothing
returns-clause-nothing c = unbroken_nothing

pub returns-clause-less : goal.returns-clause-less
returns-clause-less c = unbroken_less

pub returns-clause-follows : goal.returns-clause-follows
returns-clause-follows c = unbroken_follows

pub returns-clause-held : goal.returns-clause-held
returns-clause-held c = unbroken_held

pub returns-clause-along : goal.returns-clause-along
returns-clause-along c = unbroken_along

pub returns-clause-shown : goal.returns-clause-shown
returns-clause-shown c = unbroken_shown

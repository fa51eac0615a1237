use Rattle.vdr_outside.proofs.Known.{front-printed}
use Rattle.vdr_outside.proofs.printing.print_lent.Goals as goal

pub returns-in-Ok-clause-front : goal.returns-in-Ok-clause-front
returns-in-Ok-clause-front g c = front-printed _ _ _ _ _ c.new-out.ensures.taken c.in-Ok.ensures.front c.close.ensures.front c.close.ensures.grown

pub returns-in-Err-clause-front : goal.returns-in-Err-clause-front
returns-in-Err-clause-front g c = front-printed _ _ _ _ _ c.new-out.ensures.taken c.in-Err.ensures.front c.abandon.ensures.front c.abandon.ensures.grown

use Rattle.vdr_session.proofs.Holding.{next_step}
use Rattle.vdr_session.proofs.popping.take.Goals as goal

pub returns-clause-steps : goal.returns-clause-steps
returns-clause-steps g c = λ configured n met.
    next_step configured n c.args.queue.now c.args.taker.now c.pop_of.new.taker c.args.head.now c.pop_of.result (c.pop_of.ensures.pops configured n met)

use Rattle.std.proofs.Common.{rules}
use Rattle.vdr_session.proofs.Holding.{first_step, kept_step, none_is}
use Rattle.vdr_session.proofs.popping.hold.Goals as goal

pub returns-then-is_some-clause-steps : goal.returns-then-is_some-clause-steps
returns-then-is_some-clause-steps g c = λ configured n met. kept_step configured n c.args.queue.now c.args.taker.now c.args.head.now met

pub returns-clause-steps : goal.returns-clause-steps
returns-clause-steps g c = λ configured n met.
    first_step configured n c.args.queue.now c.args.taker.now c.pop_of.new.taker c.args.head.now c.pop_of.result (none_is c.args.head.now (search rules)) (c.pop_of.ensures.pops configured n met)

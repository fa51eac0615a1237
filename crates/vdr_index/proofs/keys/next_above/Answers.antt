use Rattle.std.proofs.Common.{arith}
use Rattle.vdr_index.proofs.Firsts.{next_clear, next_kept, next_past}
use Rattle.vdr_index.proofs.keys.next_above.Goals as goal

pub returns-then-index-order-clause-none : goal.returns-then-index-order-clause-none
returns-then-index-order-clause-none c =
    next_past c.args.kept.now c.args.order.now c.requires c.args.after c.passed-index.result c.passed-index.ensures.below c.passed-index.ensures.above (omega (arith, c.if-index-order.true))

pub returns-in-Some-clause-some : goal.returns-in-Some-clause-some
returns-in-Some-clause-some c =
    next_kept c.args.kept.now c.args.order.now c.requires c.args.after c.passed-index.result c.passed-index.ensures.below c.passed-index.ensures.above _ (omega (arith, c.passed-index.ensures.within, c.if-index-order.false)) c.in-Some.is

pub returns-in-None-clause-none : goal.returns-in-None-clause-none
returns-in-None-clause-none c =
    next_clear c.args.kept.now c.args.order.now c.requires c.args.after c.passed-index.result c.passed-index.ensures.below c.passed-index.ensures.above (omega (arith, c.passed-index.ensures.within, c.if-index-order.false)) c.in-None.is

use Rattle.std.proofs.Common.{inl, inr, refl, ◌-◌, arith}
use Rattle.vdr_index.proofs.Places.{from_within, to_within, moved_ordered, unlike_key}
use Rattle.vdr_index.proofs.keys.places.Goals as goal

pub returns-then-from-behind-clause-from : goal.returns-then-from-behind-clause-from
returns-then-from-behind-clause-from c =
    from_within c.args.kept.now c.args.order.now c.requires.ordered c.args.slot c.args.known c.requires.within c.requires.low (unlike_key c.args.kept.now c.args.order.now c.requires.ordered c.args.slot c.args.known c.requires.within c.requires.low)
    c.rank-from.result c.rank-behind.result (c.rank-behind.result - 1) (rw c.key_in.ensures at c.rank-from.ensures c.requires.ordered.rises) (rw c.key_of.ensures at c.rank-behind.ensures c.requires.ordered.rises) (inl (c.if-from-behind.true, omega arith))

pub returns-then-from-behind-clause-to : goal.returns-then-from-behind-clause-to
returns-then-from-behind-clause-to c =
    to_within c.args.kept.now c.args.order.now c.requires.ordered c.args.slot c.args.known c.requires.within c.requires.low (unlike_key c.args.kept.now c.args.order.now c.requires.ordered c.args.slot c.args.known c.requires.within c.requires.low)
    c.rank-from.result c.rank-behind.result (c.rank-behind.result - 1) (rw c.key_in.ensures at c.rank-from.ensures c.requires.ordered.rises) (rw c.key_of.ensures at c.rank-behind.ensures c.requires.ordered.rises) (inl (c.if-from-behind.true, omega arith))

pub returns-then-from-behind-clause-moved : goal.returns-then-from-behind-clause-moved
returns-then-from-behind-clause-moved c new m =
    moved_ordered c.args.kept.now c.args.order.now c.requires.ordered c.args.slot c.args.known c.requires.within c.requires.low (unlike_key c.args.kept.now c.args.order.now c.requires.ordered c.args.slot c.args.known c.requires.within c.requires.low)
    c.rank-from.result c.rank-behind.result (c.rank-behind.result - 1) (rw c.key_in.ensures at c.rank-from.ensures c.requires.ordered.rises) (rw c.key_of.ensures at c.rank-behind.ensures c.requires.ordered.rises) (inl (c.if-from-behind.true, omega arith)) new m

pub returns-else-from-behind-clause-from : goal.returns-else-from-behind-clause-from
returns-else-from-behind-clause-from c =
    from_within c.args.kept.now c.args.order.now c.requires.ordered c.args.slot c.args.known c.requires.within c.requires.low (unlike_key c.args.kept.now c.args.order.now c.requires.ordered c.args.slot c.args.known c.requires.within c.requires.low)
    c.rank-from.result c.rank-behind.result (c.rank-behind.result) (rw c.key_in.ensures at c.rank-from.ensures c.requires.ordered.rises) (rw c.key_of.ensures at c.rank-behind.ensures c.requires.ordered.rises) (inr (c.if-from-behind.false, refl))

pub returns-else-from-behind-clause-to : goal.returns-else-from-behind-clause-to
returns-else-from-behind-clause-to c =
    to_within c.args.kept.now c.args.order.now c.requires.ordered c.args.slot c.args.known c.requires.within c.requires.low (unlike_key c.args.kept.now c.args.order.now c.requires.ordered c.args.slot c.args.known c.requires.within c.requires.low)
    c.rank-from.result c.rank-behind.result (c.rank-behind.result) (rw c.key_in.ensures at c.rank-from.ensures c.requires.ordered.rises) (rw c.key_of.ensures at c.rank-behind.ensures c.requires.ordered.rises) (inr (c.if-from-behind.false, refl))

pub returns-else-from-behind-clause-moved : goal.returns-else-from-behind-clause-moved
returns-else-from-behind-clause-moved c new m =
    moved_ordered c.args.kept.now c.args.order.now c.requires.ordered c.args.slot c.args.known c.requires.within c.requires.low (unlike_key c.args.kept.now c.args.order.now c.requires.ordered c.args.slot c.args.known c.requires.within c.requires.low)
    c.rank-from.result c.rank-behind.result (c.rank-behind.result) (rw c.key_in.ensures at c.rank-from.ensures c.requires.ordered.rises) (rw c.key_of.ensures at c.rank-behind.ensures c.requires.ordered.rises) (inr (c.if-from-behind.false, refl)) new m

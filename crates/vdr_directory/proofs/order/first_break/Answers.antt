use Rattle.std.proofs.Common.{arith}
use Rattle.vdr_directory.proofs.Passing.{passed_none, next_here, passed_more, passed_break, passed_all}
use Rattle.vdr_directory.proofs.order.first_break.Goals as goal

pub loop-i-init : goal.loop-i-init
loop-i-init c placed d = passed_none placed _ d

pub loop-i-preserved : goal.loop-i-preserved
loop-i-preserved c placed d =
    let h = c.loop-i.invariant placed d in
    let n = next_here _ _ h.rest _ (omega arith) h.ahead in
    passed_more placed _ _ _ _ h n ((c.is_in_place.ensures h.newest n.here n.after h.described n.described n.slice h.runs_on).0 c.if-not-is_in_place.false)

pub returns-then-not-is_in_place-clause-some : goal.returns-then-not-is_in_place-clause-some
returns-then-not-is_in_place-clause-some c placed d =
    let h = c.loop-i.invariant placed d in
    let n = next_here _ _ h.rest _ (omega arith) h.ahead in
    passed_break placed _ _ _ _ h n (λ place. let is = (c.is_in_place.ensures h.newest n.here n.after h.described n.described n.slice h.runs_on).1 place in cc)

pub returns-clause-none : goal.returns-clause-none
returns-clause-none c placed d = passed_all placed _ _ _ (omega arith) (c.loop-i.invariant placed d)

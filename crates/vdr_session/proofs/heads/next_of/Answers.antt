use Rattle.std.proofs.Common.{Option, None, Some, inl, inr, sym, subst, arith}
use Rattle.vdr_core.specs.Taken.{Captured}
use Rattle.vdr_desk.proofs.Lists.{no_default}
use Rattle.vdr_session.specs.Heads.{ChargesHeld}
use Rattle.vdr_session.proofs.heads.next_of.Goals as goal

pub returns-then-is_full-clause-charges : goal.returns-then-is_full-clause-charges
returns-then-is_full-clause-charges c limits popped h = (inl (c.is_full.ensures.0 c.if-is_full.true), h)

pub returns-in_default-clause-charges : goal.returns-in_default-clause-charges
returns-in_default-clause-charges c limits popped h =
    let sixteen = c.type_inv.heads in
    let low = c.oldest-group.ensures.group in
    let charged = subst (λ (head : Option Captured). ChargesHeld limits popped head c.args.left c.charge.new.charges None)
    (sym (no_default c.args.heads.now c.oldest-group.result None c.index-heads-group.result (omega (arith, sixteen, low)))) (c.in_default.ensures limits popped h) in
    (inr (c.oldest-group.result, c.oldest-group.ensures, charged.0), charged.1)

pub returns-clause-charges : goal.returns-clause-charges
returns-clause-charges c limits popped h =
    let sixteen = c.type_inv.heads in
    let low = c.oldest-group.ensures.group in
    subst (λ (head : Option Captured). ChargesHeld limits popped head c.args.left c.charge.new.charges (Some c.in-Some.size))
    (sym (no_default c.args.heads.now c.oldest-group.result None c.index-heads-group.result (omega (arith, sixteen, low)))) (c.in-Some.ensures limits popped h)

use Rattle.std.proofs.Common.{length, ap, sym, ◌∙◌}
use Rattle.vdr_core.specs.Taken.{Captured}
use Rattle.vdr_session.proofs.Charged.{held_charged, none_charged}
use Rattle.vdr_session.proofs.charging.charge.Goals as goal

pub returns-in_default : goal.returns-in_default
returns-in_default c limits popped h = none_charged limits popped c.args.head.now c.args.left c.args.charges.now c.in_default.is h

pub returns : goal.returns
returns c limits popped h =
    held_charged limits popped c.in-Some.item _ c.args.head.now c.args.left c.take.new.self c.take.result c.in-Some.is c.head_of.ensures.told
    (c.take.ensures limits popped c.in-Some.item.bytes h (ap (λ (x : Captured). length x.bytes) (sym c.item.view_is) ∙ sym c.len.ensures.value))

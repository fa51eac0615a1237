use Rattle.std.proofs.Common.{◌++◌, List, ℕ, length, sym, subst}
use Rattle.vdr_control.specs.Orders.{plain}
use Rattle.vdr_desk.specs.Answers.{HasTold}
use Rattle.vdr_desk.proofs.Conversing.{HasSent, replied_then}
use Rattle.vdr_desk.proofs.telling.answer_order.Goals as goal

pub returns-clause-told : goal.returns-clause-told
returns-clause-told g c =
    let t = c.tell_on.ensures.told in
    let first : HasSent g.L.Link c.args.link.now c.reply-2.new.self c.bytes.result.now = record { all = c.in_ok-reply.ensures.all; left = c.in_ok-reply.ensures.left; asked = c.in_ok-reply.ensures.asked; later = c.in_ok-reply.ensures.cause.later } in (
      c.bytes.result.now ++ t.0,
      t.1,
      replied_then g.L.Link c.args.link.now c.reply-2.new.self c.tell_on.new.link c.bytes.result.now t.0 first c.tell_on.result t.2,
      t.3,
      subst (λ (xs : List ℕ). HasTold (g.T.Answers.answers c.args.desk) (g.T.Answers.waits c.args.desk) (length c.args.pass.now.seen) (plain c.args.order) c.tell_on.new.pass.seen (xs ++ t.0) t.1) (sym c.bytes.ensures)
          (t.4 (length c.args.pass.now.seen) (plain c.args.order) _ c.take_turn-reply.ensures.told),
    )

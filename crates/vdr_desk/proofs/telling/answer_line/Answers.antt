use Rattle.std.proofs.Common.{length}
use Rattle.vdr_control.specs.Orders.{plain}
use Rattle.vdr_desk.proofs.Going.{said}
use Rattle.vdr_desk.proofs.telling.answer_line.Goals as goal

pub returns-in-Some-clause-said : goal.returns-in-Some-clause-said
returns-in-Some-clause-said g c =
    let t = c.answer_order.ensures.told in (
      t.0,
      t.2,
      said (g.T.Answers.answers c.args.desk) (g.T.Answers.waits c.args.desk) (length c.args.pass.now.seen) c.args.line.now (plain c.in-Some.order) c.answer_order.new.pass.seen t.0 c.in-Some.ensures.found t.1 c.answer_order.result t.4 t.3,
    )

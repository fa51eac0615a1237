use Rattle.std.proofs.Common.{[], refl}
use Rattle.vdr_control.specs.Orders.{plain}
use Rattle.vdr_desk.proofs.Exchanged.{prefix_long}
use Rattle.vdr_desk.proofs.asking.take_turn.Goals as goal

pub returns-clause-told : goal.returns-clause-told
returns-clause-told g c =
    let t = c.turn.ensures.event in
    record {
      answer = record {
        order = plain c.args.order;
        before = t.history;
        own = g.T.Answers.event c.args.desk t.met (plain c.args.order) c.turn.new.job.reply t.left;
        during = [];
        text = c.turn.new.job.reply;
      };
      order_is = refl;
      seen_is = t.seen;
      later = prefix_long c.args.pass.now.seen t.history t.possible.begins;
      text_is = refl;
      so_far = t.related.1 t.history t.before;
    }

use Rattle.std.proofs.Common.{◌++◌, ℕ, List, [], Option, sym, ap, ◌∙◌, subst, append-nil, append_assoc, refl}
use Rattle.std.specs.Prelude.{is_ok}
use Rattle.vdr_control.specs.Orders.{PlainOrder}
use Rattle.vdr_desk.specs.Answers.{HasTold}
use Rattle.vdr_desk.specs.Links.{HasReplied}
use Rattle.vdr_desk.proofs.Conversing.{is_err_of, on_err, replied_failed, replied_then, sent_all, sent_none, sent_on}
use Rattle.vdr_desk.proofs.Exchanged.{prefix_join}
use Rattle.vdr_latch.proofs.Prefixes.{prefix_self}
use Rattle.vdr_desk.proofs.telling.tell_on.Goals as goal

pub loop-left-init : goal.loop-left-init
loop-left-init g c = record {
  pass = (refl, refl, refl);
  seen = prefix_self c.args.pass.now.seen;
  more = [];
  sent = sent_none g.L.Link c.args.link.now;
  waits = c.requires.waits;
  told = λ from order text told. subst (λ (xs : List ℕ). HasTold (g.T.Answers.answers c.args.desk) (g.T.Answers.waits c.args.desk) from order c.args.pass.now.seen xs c.args.left) (sym (append-nil text)) told;
}

pub loop-left-preserved : goal.loop-left-preserved
loop-left-preserved g c =
    let i = c.loop-left.invariant in
    let e = c.take_further_turn-told.ensures in
    let a = g.T.Answers.answers c.args.desk in
    let w = g.T.Answers.waits c.args.desk in
    let piece = c.as_slice.result.now in
    let was : (from : ℕ) (order : PlainOrder) (text : List ℕ) → HasTold a w from order c.loop-left.pass.seen text c.loop-left.left → HasTold a w from order c.take_further_turn-told.new.pass.seen (text ++ piece) c.take_further_turn-told.result.1 =
    λ from order text told.
    subst (λ (xs : List ℕ). HasTold a w from order c.take_further_turn-told.new.pass.seen (text ++ xs) c.take_further_turn-told.result.1) (sym c.as_slice.ensures)
    (e.told from order text (subst (λ (o : Option g.row.T-Rest.Denot). HasTold a w from order c.loop-left.pass.seen text o) c.in-Some.is told)) in
    let r : HasReplied g.L.Link c.loop-left.link c.reply.new.self piece c.reply.result = record { all = c.reply.ensures.all; front = c.reply.ensures.front; left = c.reply.ensures.left; asked = c.reply.ensures.asked; cause = c.reply.ensures.cause } in
    record {
      pass = (e.pass.0 ∙ i.pass.0, e.pass.1 ∙ i.pass.1, e.pass.2 ∙ i.pass.2);
      seen = prefix_join c.args.pass.now.seen c.loop-left.pass.seen c.take_further_turn-told.new.pass.seen i.seen e.seen;
      more = i.more ++ piece;
      sent = sent_on g.L.Link c.args.link.now c.loop-left.link c.reply.new.self i.more piece i.sent c.reply.result (ap is_ok c.in_ok-reply.was) r;
      waits = (let x = i.waits in (x.0, x.1, x.2 ++ piece, was x.0 x.1 x.2 x.3));
      told = λ from order text told.
          subst (λ (xs : List ℕ). HasTold a w from order c.take_further_turn-told.new.pass.seen xs c.take_further_turn-told.result.1) (append_assoc text i.more piece)
          (was from order (text ++ i.more) (i.told from order text told));
    }

pub returns-in_err-reply-clause-told : goal.returns-in_err-reply-clause-told
returns-in_err-reply-clause-told g c =
    let i = c.loop-left.invariant in
    let e = c.take_further_turn-told.ensures in
    let a = g.T.Answers.answers c.args.desk in
    let w = g.T.Answers.waits c.args.desk in
    let piece = c.as_slice.result.now in
    let fails = c.from_residual.ensures.0 in
    let r : HasReplied g.L.Link c.loop-left.link c.reply.new.self piece c.reply.result = record { all = c.reply.ensures.all; front = c.reply.ensures.front; left = c.reply.ensures.left; asked = c.reply.ensures.asked; cause = c.reply.ensures.cause } in (
      i.more ++ piece,
      c.take_further_turn-told.result.1,
      replied_failed g.L.Link c.args.link.now c.reply.new.self (i.more ++ piece) c.reply.result c.from_residual.result (is_err_of c.reply.result c.in_err-reply.field-0.0 c.in_err-reply.was) fails
          (replied_then g.L.Link c.args.link.now c.loop-left.link c.reply.new.self i.more piece i.sent c.reply.result r),
      on_err _ c.from_residual.result fails,
      λ from order text told.
          subst (λ (xs : List ℕ). HasTold a w from order c.take_further_turn-told.new.pass.seen xs c.take_further_turn-told.result.1)
          (ap (λ (xs : List ℕ). (text ++ i.more) ++ xs) (sym c.as_slice.ensures) ∙ append_assoc text i.more piece)
          (e.told from order (text ++ i.more) (subst (λ (o : Option g.row.T-Rest.Denot). HasTold a w from order c.loop-left.pass.seen (text ++ i.more) o) c.in-Some.is (i.told from order text told))),
    )

pub returns-clause-told : goal.returns-clause-told
returns-clause-told g c =
    let i = c.loop-left.invariant in (
      i.more,
      c.loop-left.left,
      sent_all g.L.Link c.args.link.now c.loop-left.link i.more i.sent tt,
      c.in_default.is,
      i.told,
    )

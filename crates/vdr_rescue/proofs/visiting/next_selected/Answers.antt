use Rattle.std.proofs.Common.{Bool, true, false, Ok, sym, ap, ◌∙◌, arith}
use Rattle.vdr_outside.proofs.Counts.{none_falls_join}
use Rattle.vdr_outside.proofs.Moments.{unchanged_join}
use Rattle.vdr_segment.specs.declared.area.Area.{Area}
use Rattle.vdr_entry.specs.Queries.{asked}
use Rattle.vdr_rescue.proofs.VisitLemmas.{iff_left, left_at, left_done, left_passed, left_selected, others_on, spent_on, step_at}
use Rattle.vdr_rescue.proofs.visiting.next_selected.Goals as goal

pub returns-then-selects-clause-gives : goal.returns-then-selects-clause-gives
returns-then-selects-clause-gives g c told records all =
    let i = c.loop-item.invariant in
    let m = c.args.cursor.now.area.medium in
    let r = c.step_on.new.item in
    iff_left (i.gives told records all)
    (left_selected _ c.args.saves.now.table (asked c.args.query.now) c.loop-item.cursor c.step_on.new.cursor records all r
    (λ given. step_at c.loop-item.cursor c.step_on.new.cursor r c.in_ok-step_on.field-0 true (g.M.Media.disk c.args.media.now).reads (g.M.Media.disk c.loop-item.media).reads c.loop-item.cursor.area.medium m
    (i.unchanged.reads told) (ap (λ (a : Area). a.medium) i.area) c.if-branch.true (c.in_ok-step_on.ensures.gives told) given all)
    (sym c.selects.ensures ∙ c.if-selects.true))

pub loop-item-preserved : goal.loop-item-preserved
loop-item-preserved g c =
    let i = c.loop-item.invariant in
    let m = c.args.cursor.now.area.medium in
    let medium = ap (λ (a : Area). a.medium) i.area in
    let r = c.step_on.new.item in
    let onward = c.step_on.ensures.onward (c.in_ok-step_on.was ∙ ap (λ (b : Bool). Ok b) c.if-branch.true) in
    record {
      area = c.step_on.ensures.area ∙ i.area;
      heads = c.step_on.ensures.heads ∙ i.heads;
      unchanged = unchanged_join _ _ _ i.unchanged c.step_on.ensures.unchanged;
      left = let a = i.left in omega (arith, a, onward);
      spent = left_at _ _ c.in_ok-step_on.was (spent_on m _ _ _ _ _ _ _ _ medium i.spent c.step_on.ensures.spends);
      others = others_on _ _ _ _ _ medium i.others c.step_on.ensures.others;
      later = none_falls_join _ _ _ i.later c.step_on.ensures.cause.later;
      gives = λ told records all. iff_left (i.gives told records all)
          (left_passed _ c.args.saves.now.table (asked c.args.query.now) c.loop-item.cursor c.step_on.new.cursor records all r
          (λ given. step_at c.loop-item.cursor c.step_on.new.cursor r c.in_ok-step_on.field-0 true (g.M.Media.disk c.args.media.now).reads (g.M.Media.disk c.loop-item.media).reads c.loop-item.cursor.area.medium m
          (i.unchanged.reads told) medium c.if-branch.true (c.in_ok-step_on.ensures.gives told) given all)
          (sym c.selects.ensures ∙ c.if-selects.false));
    }

pub returns-clause-gives : goal.returns-clause-gives
returns-clause-gives g c told records all =
    let i = c.loop-item.invariant in
    let m = c.args.cursor.now.area.medium in
    iff_left (i.gives told records all)
    (left_done _ c.args.saves.now.table (asked c.args.query.now) c.loop-item.cursor c.step_on.new.cursor records all
    (λ given. step_at c.loop-item.cursor c.step_on.new.cursor c.step_on.new.item c.in_ok-step_on.field-0 false (g.M.Media.disk c.args.media.now).reads (g.M.Media.disk c.loop-item.media).reads c.loop-item.cursor.area.medium m
    (i.unchanged.reads told) (ap (λ (a : Area). a.medium) i.area) c.if-branch.false (c.in_ok-step_on.ensures.gives told) given all))

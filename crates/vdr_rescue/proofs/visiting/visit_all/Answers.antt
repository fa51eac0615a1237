use Rattle.std.proofs.Common.{[], ◌∙◌, Err, sym, ap, append-nil}
use Rattle.std.proofs.KnownBytes.{Appends-trans}
use Rattle.std.proofs.lemmas.Result.{err_from_is_err_and}
use Rattle.vdr_entry.specs.Queries.{asked}
use Rattle.vdr_visit.specs.Prints.{text_of, whole_text}
use Rattle.vdr_visit.proofs.Printing.{stopped_front, stopped_made, stopped_text, whole_at}
use Rattle.vdr_rescue.proofs.HandLemmas.{ended_early, from_front, stopped}
use Rattle.vdr_rescue.proofs.visiting.visit_all.Goals as goal

pub returns-in_err-visit_each-clause-handed : goal.returns-in_err-visit_each-clause-handed
returns-in_err-visit_each-clause-handed g c first had =
    let p = err_from_is_err_and c.from_residual.result c.from_residual.ensures.1 in
    ended_early (from_front g.M.Media.tells (g.M.Media.disk c.args.media.now).reads c.args.saves.now.table (asked c.args.query.now) c.args.cursor.now c.rewind.new.self c.rewind.ensures (c.visit_each.ensures.handed first had)) (g.V.Visitor.last first) p.0 c.from_residual.result (c.in_err-visit_each.was ∙ ap Err (sym p.2)) p.1

pub returns-in_err-finish-clause-handed : goal.returns-in_err-finish-clause-handed
returns-in_err-finish-clause-handed g c first had =
    let v = from_front g.M.Media.tells (g.M.Media.disk c.args.media.now).reads c.args.saves.now.table (asked c.args.query.now) c.args.cursor.now c.rewind.new.self c.rewind.ensures (c.in_ok-visit_each.ensures.handed first had) in
    let line = g.V.Visitor.line first in
    let p = err_from_is_err_and c.from_residual-in_err-finish.result c.from_residual-in_err-finish.ensures.1 in
    let is = stopped c.in_err-finish.field-0.0 p.0 c.from_residual-in_err-finish.result p.1 p.2 in
    record {
      seen = v.seen;
      made =
          stopped_made _ _ line _ v.seen _ _ _ c.in_err-finish.field-0.0 c.finish.result c.from_residual-in_err-finish.result c.in_err-finish.was is v.made.1
          v.seen [] (sym (append-nil v.seen)) (g.V.Visitor.last first v.seen) (c.finish.ensures.printed first v.seen v.made.0) (c.finish.ensures.stops first v.seen v.made.0);
      are = λ records t.
          stopped_front c.in_err-finish.field-0.0 c.from_residual-in_err-finish.result is v.seen records
          ([], sym (v.are records t) ∙ sym (append-nil v.seen));
      front = λ records t.
          stopped_text line v.seen _ _ _ c.in_err-finish.field-0.0 c.finish.result c.in_err-finish.was v.made.1 (g.V.Visitor.last first v.seen) [] _
          (whole_at line (g.V.Visitor.last first) v.seen records (v.are records t)) (c.finish.ensures.printed first v.seen v.made.0);
    }

pub returns-clause-handed : goal.returns-clause-handed
returns-clause-handed g c first had =
    let v = from_front g.M.Media.tells (g.M.Media.disk c.args.media.now).reads c.args.saves.now.table (asked c.args.query.now) c.args.cursor.now c.rewind.new.self c.rewind.ensures (c.in_ok-visit_each.ensures.handed first had) in
    let line = g.V.Visitor.line first in
    let printed = Appends-trans _ _ _ (text_of line v.seen) (g.V.Visitor.last first v.seen) v.made.1 (c.in_ok-finish.ensures.printed first v.seen v.made.0) in
    record {
      seen = v.seen;
      made = (c.in_ok-finish.ensures.has first v.seen v.made.0, printed);
      are = λ records t. v.are records t;
      front = λ records t. (
        whole_text line (g.V.Visitor.last first) v.seen,
        [],
        ap (whole_text line (g.V.Visitor.last first)) (sym (v.are records t)) ∙ sym (append-nil (whole_text line (g.V.Visitor.last first) v.seen)),
        printed,
      );
    }

use Rattle.std.proofs.Common.{◌∙◌, Err, sym, ap, subst, [], append-nil}
use Rattle.std.proofs.KnownBytes.{Appends-trans}
use Rattle.std.proofs.lemmas.Result.{err_from_is_err_and}
use Rattle.vdr_durability.specs.Playback.{selected}
use Rattle.vdr_entry.specs.Queries.{asked}
use Rattle.vdr_visit.specs.Prints.{text_of, whole_text}
use Rattle.vdr_visit.specs.Refusals.{stop_of}
use Rattle.vdr_vault.proofs.Damages.{IsTold, none_told}
use Rattle.vdr_visit.proofs.Printing.{stopped_front, stopped_made, stopped_text, whole_at}
use Rattle.vdr_vault.proofs.Printing.{ended_early}
use Rattle.vdr_vault.proofs.Stopping.{not_by_visitor, output_cause, stopped}
use Rattle.vdr_vault.proofs.each.visit_all.Goals as goal

pub returns-in_err-visit_each-clause-visited : goal.returns-in_err-visit_each-clause-visited
returns-in_err-visit_each-clause-visited g c first had =
    let p = err_from_is_err_and c.from_residual.result c.from_residual.ensures.1 in
    ended_early (c.visit_each.ensures.visited first had) (g.V.Visitor.last first) p.0 c.from_residual.result (c.in_err-visit_each.was ∙ ap Err (sym p.2)) p.1

pub returns-in_err-finish-clause-visited : goal.returns-in_err-finish-clause-visited
returns-in_err-finish-clause-visited g c first had =
    let v = c.in_ok-visit_each.ensures.visited first had in
    let line = g.V.Visitor.line first in
    let p = err_from_is_err_and c.from_residual-in_err-finish.result c.from_residual-in_err-finish.ensures.1 in
    let is = stopped c.in_err-finish.field-0.0 p.0 c.from_residual-in_err-finish.result p.1 p.2 in
    record {
      seen = v.seen;
      made =
          stopped_made _ _ line _ v.seen _ _ _ c.in_err-finish.field-0.0 c.finish.result c.from_residual-in_err-finish.result c.in_err-finish.was is v.made.1
          v.seen [] (sym (append-nil v.seen)) (g.V.Visitor.last first v.seen) (c.finish.ensures.printed first v.seen v.made.0) (c.finish.ensures.stops first v.seen v.made.0);
      are = λ opening events placed told readable.
          stopped_front c.in_err-finish.field-0.0 c.from_residual-in_err-finish.result is v.seen (selected opening events (asked c.args.query.now))
          ([], sym (v.are opening events placed told readable) ∙ sym (append-nil v.seen));
      front = λ opening events placed told readable.
          stopped_text line v.seen _ _ _ c.in_err-finish.field-0.0 c.finish.result c.in_err-finish.was v.made.1 (g.V.Visitor.last first v.seen) [] _
          (whole_at line (g.V.Visitor.last first) v.seen (selected opening events (asked c.args.query.now)) (v.are opening events placed told readable)) (c.finish.ensures.printed first v.seen v.made.0);
    }

pub returns-in_err-finish-clause-output : goal.returns-in_err-finish-clause-output
returns-in_err-finish-clause-output g c =
    let p = err_from_is_err_and c.from_residual-in_err-finish.result c.from_residual-in_err-finish.ensures.1 in
    output_cause c.in_err-finish.field-0.0 c.finish.result c.from_residual-in_err-finish.result c.in_err-finish.was (stopped c.in_err-finish.field-0.0 p.0 c.from_residual-in_err-finish.result p.1 p.2)
    (g.O.Sink.faults c.args.out.now) (g.O.Sink.faults c.visit_each.new.out) (g.O.Sink.faults c.finish.new.out) c.visit_each.ensures.output.later c.finish.ensures.cause

pub returns-clause-visited : goal.returns-clause-visited
returns-clause-visited g c first had =
    let v = c.in_ok-visit_each.ensures.visited first had in
    let line = g.V.Visitor.line first in
    let printed = Appends-trans _ _ _ (text_of line v.seen) (g.V.Visitor.last first v.seen) v.made.1 (c.in_ok-finish.ensures.printed first v.seen v.made.0) in
    record {
      seen = v.seen;
      made = (c.in_ok-finish.ensures.has first v.seen v.made.0, printed);
      are = λ opening events placed told readable. v.are opening events placed told readable;
      front = λ opening events placed told readable. (
        whole_text line (g.V.Visitor.last first) v.seen,
        [],
        ap (whole_text line (g.V.Visitor.last first)) (sym (v.are opening events placed told readable)) ∙ sym (append-nil (whole_text line (g.V.Visitor.last first) v.seen)),
        printed,
      );
    }

pub returns-in_err-visit_each-clause-damage : goal.returns-in_err-visit_each-clause-damage
returns-in_err-visit_each-clause-damage g c =
    let p = err_from_is_err_and c.from_residual.result c.from_residual.ensures.1 in
    subst (IsTold (asked c.args.query.now) c.args.vault.now (g.M.Media.disk c.args.media.now)) (c.in_err-visit_each.was ∙ ap Err (sym p.2) ∙ sym p.1) c.visit_each.ensures.damage

pub returns-in_err-finish-clause-damage : goal.returns-in_err-finish-clause-damage
returns-in_err-finish-clause-damage g c =
    let p = err_from_is_err_and c.from_residual-in_err-finish.result c.from_residual-in_err-finish.ensures.1 in
    let is = stopped c.in_err-finish.field-0.0 p.0 c.from_residual-in_err-finish.result p.1 p.2 in
    none_told (asked c.args.query.now) c.args.vault.now (g.M.Media.disk c.args.media.now) (stop_of c.in_err-finish.field-0.0)
    c.from_residual-in_err-finish.result is (not_by_visitor c.in_err-finish.field-0.0 c.from_residual-in_err-finish.result is)

pub returns-clause-damage : goal.returns-clause-damage
returns-clause-damage g c = subst (IsTold (asked c.args.query.now) c.args.vault.now (g.M.Media.disk c.args.media.now)) c.in_ok-visit_each.was c.visit_each.ensures.damage

use Rattle.std.proofs.Common.{◌∙◌, [], List, Some, refl, sym, ap, append-nil}
use Rattle.std.proofs.KnownBytes.{Appends-nil, Appends-trans}
use Rattle.std.proofs.lemmas.Result.{err_from_is_err_and}
use Rattle.vdr_terms.specs.Records.{Record}
use Rattle.vdr_entry.specs.Queries.{asked as wanted}
use Rattle.vdr_visit.specs.Prints.{text_of, whole_text}
use Rattle.vdr_visit.proofs.Printing.{stopped_front, stopped_made, stopped_text, whole_at}
use Rattle.vdr_evidence.specs.Files.{evidence_bytes, heading_bytes}
use Rattle.vdr_verify.specs.Visiting.{IsLeftWhole, selected_in}
use Rattle.vdr_verify.proofs.Visits.{ended_early, handed_stopped, is_stop, meet_at, meet_never, pass_all, pass_at, pass_heading, pass_never, pass_told, stopped_by}
use Rattle.vdr_verify.proofs.visiting.visit_through.Goals as goal

pub returns-in_err-pass-clause-handed : goal.returns-in_err-pass-clause-handed
returns-in_err-pass-clause-handed g c first had =
    let q = wanted c.args.query.now in
    let line = g.V.Visitor.line first in
    let p = err_from_is_err_and c.from_residual.result c.from_residual.ensures.1 in
    handed_stopped [] (had, Appends-nil (g.O.Sink.taken c.args.out.now)) (λ records w. (records, refl))
    (whole_text line (g.V.Visitor.last first)) (λ records. (g.V.Visitor.last first records, refl)) c.in_err-pass.field-0.0 c.in_err-pass.ensures.stop
    (λ m offset is records w. pass_never _ c.args.kept.now q records w (pass_at m offset _ _ _ _ _ c.pass.result c.in_err-pass.field-0.0 c.in_err-pass.was is c.pass.ensures.passes))
    c.from_residual.result (is_stop c.in_err-pass.field-0.0 p.0 c.from_residual.result p.1 p.2)

pub returns-in_err-visit_records-clause-handed : goal.returns-in_err-visit_records-clause-handed
returns-in_err-visit_records-clause-handed g c first had =
    let q = wanted c.args.query.now in
    let passed = c.in_ok-pass.ensures.passes in
    let p = err_from_is_err_and c.from_residual-in_err-visit_records.result c.from_residual-in_err-visit_records.ensures.1 in
    ended_early (c.visit_records.ensures.handed first had) (IsLeftWhole (g.I.Source.left c.args.input.now) c.args.kept.now q)
    (λ records w. pass_told _ c.args.kept.now q records w _ _ _ passed.0 passed.1 passed.2 c.new-reader.ensures)
    (g.V.Visitor.last first) c.in_err-visit_records.field-0.0 c.from_residual-in_err-visit_records.result c.in_err-visit_records.was
    (is_stop c.in_err-visit_records.field-0.0 p.0 c.from_residual-in_err-visit_records.result p.1 p.2)

pub returns-in_err-meet-clause-handed : goal.returns-in_err-meet-clause-handed
returns-in_err-meet-clause-handed g c first had =
    let q = wanted c.args.query.now in
    let line = g.V.Visitor.line first in
    let passed = c.in_ok-pass.ensures.passes in
    let told = λ (records : List Record) (w : IsLeftWhole (g.I.Source.left c.args.input.now) c.args.kept.now q records). pass_told _ c.args.kept.now q records w _ _ _ passed.0 passed.1 passed.2 c.new-reader.ensures in
    let v = c.in_ok-visit_records.ensures.handed first had in
    let all = c.in_ok-visit_records.ensures.all refl in
    let p = err_from_is_err_and c.from_residual-in_err-meet.result c.from_residual-in_err-meet.ensures.1 in
    handed_stopped v.seen v.made (λ records w. ([], sym (v.are records (told records w)) ∙ sym (append-nil v.seen)))
    (whole_text line (g.V.Visitor.last first)) (λ records. (g.V.Visitor.last first records, refl)) c.in_err-meet.field-0.0 c.in_err-meet.ensures.stop
    (λ m offset is records w.
    let b = told records w in
    let known = all.known (Some (evidence_bytes (heading_bytes b.heading) b.all)) b.heading b.behind in
    meet_never _ c.args.kept.now q records w _ _ b _ _ all.all known.0 known.1 (pass_heading _ c.args.kept.now q records w _ _ _ passed.0 passed.1 passed.2 c.new-reader.ensures) (pass_all _ c.args.kept.now q records w _ _ _ passed.0 passed.1 passed.2 c.new-reader.ensures)
    (meet_at m offset _ _ _ c.meet.result c.in_err-meet.field-0.0 c.in_err-meet.was is c.meet.ensures.meets))
    c.from_residual-in_err-meet.result (is_stop c.in_err-meet.field-0.0 p.0 c.from_residual-in_err-meet.result p.1 p.2)

pub returns-in_err-finish-clause-handed : goal.returns-in_err-finish-clause-handed
returns-in_err-finish-clause-handed g c first had =
    let q = wanted c.args.query.now in
    let line = g.V.Visitor.line first in
    let passed = c.in_ok-pass.ensures.passes in
    let told = λ (records : List Record) (w : IsLeftWhole (g.I.Source.left c.args.input.now) c.args.kept.now q records). pass_told _ c.args.kept.now q records w _ _ _ passed.0 passed.1 passed.2 c.new-reader.ensures in
    let v = c.in_ok-visit_records.ensures.handed first had in
    let p = err_from_is_err_and c.from_residual-in_err-finish.result c.from_residual-in_err-finish.ensures.1 in
    let out = c.from_residual-in_err-finish.result in
    let own = c.in_err-finish.field-0.0 in
    let is = stopped_by own p.0 out p.1 p.2 in
    record {
      seen = v.seen;
      made =
          stopped_made _ _ line _ v.seen _ _ _ own c.finish.result out c.in_err-finish.was is v.made.1
          v.seen [] (sym (append-nil v.seen)) (g.V.Visitor.last first v.seen) (c.finish.ensures.printed first v.seen v.made.0) (c.finish.ensures.stops first v.seen v.made.0);
      are = λ records w. stopped_front own out is v.seen records ([], sym (v.are records (told records w)) ∙ sym (append-nil v.seen));
      front = λ records w.
          stopped_text line v.seen _ _ _ own c.finish.result c.in_err-finish.was v.made.1 (g.V.Visitor.last first v.seen) [] _
          (whole_at line (g.V.Visitor.last first) v.seen records (v.are records (told records w))) (c.finish.ensures.printed first v.seen v.made.0);
    }

pub returns-clause-handed : goal.returns-clause-handed
returns-clause-handed g c first had =
    let q = wanted c.args.query.now in
    let line = g.V.Visitor.line first in
    let passed = c.in_ok-pass.ensures.passes in
    let told = λ (records : List Record) (w : IsLeftWhole (g.I.Source.left c.args.input.now) c.args.kept.now q records). pass_told _ c.args.kept.now q records w _ _ _ passed.0 passed.1 passed.2 c.new-reader.ensures in
    let v = c.in_ok-visit_records.ensures.handed first had in
    let printed = Appends-trans _ _ _ (text_of line v.seen) (g.V.Visitor.last first v.seen) v.made.1 (c.in_ok-finish.ensures.printed first v.seen v.made.0) in
    record {
      seen = v.seen;
      made = (c.in_ok-finish.ensures.has first v.seen v.made.0, printed);
      are = λ records w. v.are records (told records w);
      front = λ records w. (
        whole_text line (g.V.Visitor.last first) v.seen,
        [],
        ap (whole_text line (g.V.Visitor.last first)) (sym (v.are records (told records w))) ∙ sym (append-nil (whole_text line (g.V.Visitor.last first) v.seen)),
        printed,
      );
    }

pub returns-clause-known : goal.returns-clause-known
returns-clause-known g c done first had =
    let q = wanted c.args.query.now in
    let line = g.V.Visitor.line first in
    let passed = c.in_ok-pass.ensures.passes in
    let all = c.in_ok-visit_records.ensures.all refl in
    let some = selected_in q all.all in
    let h = all.handed first had in
    let met = c.in_ok-meet.ensures.meets _ (all.read passed.0 (passed.2.held [] c.new-reader.ensures)) in
    record {
      front = passed.0;
      all = all.all;
      behind = met.0;
      is = met.1;
      holds = (c.in_ok-finish.ensures.has first some h.0, Appends-trans _ _ _ (text_of line some) (g.V.Visitor.last first some) h.1 (c.in_ok-finish.ensures.printed first some h.0));
    }

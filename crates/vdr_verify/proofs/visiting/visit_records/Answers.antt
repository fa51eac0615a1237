use Rattle.std.proofs.Common.{◌≡◌, ◌++◌, ◌∷◌, [], List, Some, refl, sym, ap, subst, arith, append-nil}
use Rattle.std.proofs.KnownBytes.{Appends-nil}
use Rattle.std.proofs.lemmas.Result.{err_from_is_err_and}
use Rattle.vdr_terms.specs.Records.{Record}
use Rattle.vdr_entry.specs.Queries.{asked as wanted}
use Rattle.vdr_visit.specs.Prints.{text_of}
use Rattle.vdr_visit.proofs.Printing.{stopped_front, stopped_made, stopped_text, text_at}
use Rattle.vdr_evidence.specs.Files.{evidence_bytes, heading_bytes}
use Rattle.vdr_verify.specs.Lists.{IsBehindRecords}
use Rattle.vdr_verify.specs.Reading.{HasRead}
use Rattle.vdr_verify.specs.Visiting.{IsBeforeRecords, selected_in}
use Rattle.vdr_verify.specs.declared.account.Spot.{Spot}
use Rattle.vdr_verify.proofs.Lists.{fewer_places}
use Rattle.vdr_verify.proofs.Visits.{all_handed, behind_more, end_held, end_known, end_rest, front_told, handed_more, handed_stopped, held_more, is_stop, rest_told, step_never, stopped_by}
use Rattle.vdr_verify.proofs.visiting.visit_records.Goals as goal

pub loop-item-init : goal.loop-item-init
loop-item-init g c = record {
  later = omega arith;
  output = omega arith;
  visits = (
    [],
    λ first had. (had, Appends-nil (g.O.Sink.taken c.args.out.now)),
    λ first h is. is,
    λ front has. subst (HasRead c.args.reader.now) (sym (append-nil front)) has,
  );
}

pub loop-item-smaller : goal.loop-item-smaller
loop-item-smaller g c = fewer_places c.args.asked.now c.loop-item.last c.step.new.item _ (c.in_ok-step.ensures.given c.if-branch.true) (ap (λ (s : Spot). Some s) c.spot_of.ensures)

pub loop-item-preserved : goal.loop-item-preserved
loop-item-preserved g c =
    let i = c.loop-item.invariant in
    let v = i.visits in
    let r = c.step.new.item in
    let q = wanted c.args.query.now in
    record {
      later = let a = i.later in let b = c.step.ensures.cause.later in omega (arith, a, b);
      output = let a = i.output in let b = c.hand.ensures.cause.later in omega (arith, a, b);
      visits = (
        v.0 ++ r ∷ [],
        λ first had. let h = v.1 first had in
            handed_more (λ l. g.V.Visitor.has first l c.hand.new.visitor) (g.V.Visitor.line first) q v.0 r _ _ _ h.1 (c.in_ok-hand.ensures.has first (selected_in q v.0) h.0) (c.in_ok-hand.ensures.printed first (selected_in q v.0) h.0),
        λ first h is. subst (λ (s : Spot). IsBehindRecords first (g.I.Source.left c.step.new.input) c.step.new.reader c.args.asked.now (Some s) h (v.0 ++ r ∷ [])) (sym c.spot_of.ensures)
            (behind_more first _ _ _ r h v.0 _ c.if-branch.true (c.in_ok-step.ensures.finds first h v.0 (v.2 first h is))),
        λ front has. held_more _ r front v.0 _ c.if-branch.true (c.in_ok-step.ensures.holds _ (v.3 front has)),
      );
    }

pub returns-in_err-step-clause-handed : goal.returns-in_err-step-clause-handed
returns-in_err-step-clause-handed g c first had =
    let v = c.loop-item.invariant.visits in
    let h = v.1 first had in
    let q = wanted c.args.query.now in
    let p = err_from_is_err_and c.from_residual.result c.from_residual.ensures.1 in
    handed_stopped (selected_in q v.0) h (λ records b. front_told _ _ _ q records b _ _ _ v.0 (v.2 (Some (evidence_bytes (heading_bytes b.heading) b.all)) b.heading b.behind))
    (text_of (g.V.Visitor.line first)) (λ records. ([], sym (append-nil (text_of (g.V.Visitor.line first) records)))) c.in_err-step.field-0.0 c.in_err-step.ensures.stop
    (λ m offset is records b. step_never _ _ _ q records b _ _ c.step.new.item v.0 m offset c.step.result c.in_err-step.field-0.0 c.in_err-step.was is (c.step.ensures.finds (Some (evidence_bytes (heading_bytes b.heading) b.all)) b.heading v.0 (v.2 (Some (evidence_bytes (heading_bytes b.heading) b.all)) b.heading b.behind)))
    c.from_residual.result (is_stop c.in_err-step.field-0.0 p.0 c.from_residual.result p.1 p.2)

pub returns-in_err-hand-clause-handed : goal.returns-in_err-hand-clause-handed
returns-in_err-hand-clause-handed g c first had =
    let v = c.loop-item.invariant.visits in
    let h = v.1 first had in
    let r = c.step.new.item in
    let q = wanted c.args.query.now in
    let sel = selected_in q v.0 in
    let line = g.V.Visitor.line first in
    let p = err_from_is_err_and c.from_residual-in_err-hand.result c.from_residual-in_err-hand.ensures.1 in
    let own = c.in_err-hand.field-0.0 in
    let out = c.from_residual-in_err-hand.result in
    let is = stopped_by own p.0 out p.1 p.2 in
    let taken = c.in_err-hand.ensures.taken in
    let rest : (records : List Record) → IsBeforeRecords _ _ c.args.asked.now q records → (rest : List Record) × (records ≡ (sel ++ r ∷ []) ++ rest) =
    λ records b. rest_told _ _ _ q records b _ _ r v.0 _ c.if-branch.true (c.in_ok-step.ensures.finds (Some (evidence_bytes (heading_bytes b.heading) b.all)) b.heading v.0 (v.2 (Some (evidence_bytes (heading_bytes b.heading) b.all)) b.heading b.behind)) taken in
    record {
      seen = sel ++ r ∷ [];
      made =
          stopped_made _ _ line _ sel _ _ _ own c.hand.result out c.in_err-hand.was is h.1
          (sel ++ r ∷ []) (r ∷ []) refl (line sel r) (c.hand.ensures.stopped first sel h.0 taken) (c.hand.ensures.stops first sel h.0);
      are = λ records b. stopped_front own out is (sel ++ r ∷ []) records (rest records b);
      front = λ records b. let l = rest records b in
          stopped_text line sel _ _ _ own c.hand.result c.in_err-hand.was h.1 (line sel r) _ _
          (text_at line sel r l.0 records l.1) (c.hand.ensures.stopped first sel h.0 taken);
    }

pub returns-clause-handed : goal.returns-clause-handed
returns-clause-handed g c first had =
    let v = c.loop-item.invariant.visits in
    let h = v.1 first had in
    let q = wanted c.args.query.now in
    all_handed (g.V.Visitor.line first) (selected_in q v.0) h
    (λ records b. end_rest _ _ _ q records b _ _ c.step.new.item v.0 _ c.if-branch.false (v.2 (Some (evidence_bytes (heading_bytes b.heading) b.all)) b.heading b.behind).holds (c.in_ok-step.ensures.finds (Some (evidence_bytes (heading_bytes b.heading) b.all)) b.heading v.0 (v.2 (Some (evidence_bytes (heading_bytes b.heading) b.all)) b.heading b.behind)))

pub returns-clause-all : goal.returns-clause-all
returns-clause-all g c done =
    let v = c.loop-item.invariant.visits in
    record {
      all = v.0;
      known = λ first h is. let was = v.2 first h is in (was.holds.legal, end_known first _ _ _ c.step.new.item h v.0 _ c.if-branch.false (c.in_ok-step.ensures.finds first h v.0 was));
      handed = λ first had. v.1 first had;
      read = λ front has. end_held _ c.step.new.item front v.0 _ c.if-branch.false (c.in_ok-step.ensures.holds _ (v.3 front has));
    }

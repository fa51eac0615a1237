use Rattle.std.proofs.Common.{rules, ◌≡◌, ◌++◌, ◌∷◌, [], true, false, List, refl, sym, ap, ◌∙◌, subst, arith, append-nil}
use Rattle.std.specs.Prelude.{◌↔◌}
use Rattle.std.proofs.KnownBytes.{Appends-nil}
use Rattle.std.proofs.lemmas.Result.{err_from_is_err_and}
use Rattle.vdr_terms.specs.Records.{Record}
use Rattle.vdr_outside.specs.Disk.{content}
use Rattle.vdr_outside.proofs.Counts.{none_falls_join}
use Rattle.vdr_outside.proofs.Moments.{unchanged_join}
use Rattle.vdr_segment.specs.declared.area.Area.{Area}
use Rattle.vdr_entry.specs.Queries.{asked}
use Rattle.vdr_visit.proofs.Printing.{front_of, printed_next, stopped_front, stopped_made, stopped_text, text_at}
use Rattle.vdr_rescue.specs.declared.told.Told.{Told}
use Rattle.vdr_rescue.specs.Visiting.{IsLeft}
use Rattle.vdr_rescue.proofs.HandLemmas.{faulted_front, faulted_made, is_fault, stopped}
use Rattle.vdr_rescue.proofs.VisitLemmas.{left_at, next_at, others_on, spent_on, visited_all, visited_next}
use Rattle.vdr_rescue.proofs.visiting.visit_each.Goals as goal

pub returns-in_err-next_selected-clause-handed : goal.returns-in_err-next_selected-clause-handed
returns-in_err-next_selected-clause-handed g c first had =
    let v = c.loop-visitor.invariant.visits in
    let h = v.1 first had in
    let p = err_from_is_err_and c.from_residual.result c.from_residual.ensures.1 in
    let is = is_fault c.in_err-next_selected.field-0.0 p.0 c.from_residual.result p.1 p.2 c.in_err-next_selected.ensures.fault in
    record {
      seen = v.0;
      made = faulted_made _ _ (g.V.Visitor.line first) _ v.0 _ _ c.from_residual.result is h;
      are = λ records t. let l = (v.2 t.0 t.1.0 records).0 t.1.1 in faulted_front v.0 records c.from_residual.result is (l.0, l.1);
      front = λ records t. let l = (v.2 t.0 t.1.0 records).0 t.1.1 in front_of (g.V.Visitor.line first) v.0 l.0 records _ _ l.1 h.1;
    }

pub returns-in_err-visit-clause-handed : goal.returns-in_err-visit-clause-handed
returns-in_err-visit-clause-handed g c first had =
    let i = c.loop-visitor.invariant in
    let v = i.visits in
    let h = v.1 first had in
    let r = c.next_selected.new.item in
    let line = g.V.Visitor.line first in
    let m = c.args.cursor.now.area.medium in
    let p = err_from_is_err_and c.from_residual-in_err-visit.result c.from_residual-in_err-visit.ensures.1 in
    let is = stopped c.in_err-visit.field-0.0 p.0 c.from_residual-in_err-visit.result p.1 p.2 in
    let so : (told : g.M.Media.tells) (all : List Told) (records : List Record) → IsLeft (content (g.M.Media.disk c.args.media.now).reads m) c.args.saves.now.table c.args.cursor.now (asked c.args.query.now) records all
    ↔ ((rest : List Record) × (records ≡ (v.0 ++ r ∷ []) ++ rest) × IsLeft (content (g.M.Media.disk c.args.media.now).reads m) c.args.saves.now.table c.next_selected.new.cursor (asked c.args.query.now) rest all) =
    λ told all records. visited_next v.0 (λ rs. v.2 told all rs) r
    (λ rest. next_at c.args.saves.now.table (asked c.args.query.now) c.loop-visitor.cursor c.next_selected.new.cursor r c.in_ok-next_selected.field-0 true
    (g.M.Media.disk c.args.media.now).reads (g.M.Media.disk c.loop-visitor.media).reads c.loop-visitor.cursor.area.medium m (i.unchanged.reads told) (ap (λ (a : Area). a.medium) i.area) c.if-branch.true
    (c.in_ok-next_selected.ensures.gives told) rest all) records in
    record {
      seen = v.0 ++ r ∷ [];
      made =
          stopped_made _ _ line _ v.0 _ _ _ c.in_err-visit.field-0.0 c.visit.result c.from_residual-in_err-visit.result c.in_err-visit.was is h.1
          (v.0 ++ r ∷ []) (r ∷ []) refl (line v.0 r) (c.visit.ensures.printed first v.0 h.0) (c.visit.ensures.stops first v.0 h.0);
      are = λ records t. let l = (so t.0 t.1.0 records).0 t.1.1 in stopped_front c.in_err-visit.field-0.0 c.from_residual-in_err-visit.result is (v.0 ++ r ∷ []) records (l.0, l.1);
      front = λ records t. let l = (so t.0 t.1.0 records).0 t.1.1 in
          stopped_text line v.0 _ _ _ c.in_err-visit.field-0.0 c.visit.result c.in_err-visit.was h.1 (line v.0 r) _ _
          (text_at line v.0 r l.0 records l.1) (c.visit.ensures.printed first v.0 h.0);
    }

pub returns-clause-handed : goal.returns-clause-handed
returns-clause-handed g c first had =
    let i = c.loop-visitor.invariant in
    let v = i.visits in
    let h = v.1 first had in
    let m = c.args.cursor.now.area.medium in
    let all_seen : (told : g.M.Media.tells) (all : List Told) (records : List Record) → IsLeft (content (g.M.Media.disk c.args.media.now).reads m) c.args.saves.now.table c.args.cursor.now (asked c.args.query.now) records all
    ↔ ((records ≡ v.0) × (all ≡ c.next_selected.new.cursor.told)) =
    λ told all records. visited_all v.0 (λ rs. v.2 told all rs)
    (λ rest. next_at c.args.saves.now.table (asked c.args.query.now) c.loop-visitor.cursor c.next_selected.new.cursor c.next_selected.new.item c.in_ok-next_selected.field-0 false
    (g.M.Media.disk c.args.media.now).reads (g.M.Media.disk c.loop-visitor.media).reads c.loop-visitor.cursor.area.medium m (i.unchanged.reads told) (ap (λ (a : Area). a.medium) i.area) c.if-branch.false
    (c.in_ok-next_selected.ensures.gives told) rest all) records in
    record {
      seen = v.0;
      made = h;
      are = λ records t. sym ((all_seen t.0 t.1.0 records).0 t.1.1).0;
      front = λ records t. front_of (g.V.Visitor.line first) v.0 [] records _ _ (((all_seen t.0 t.1.0 records).0 t.1.1).0 ∙ sym (append-nil v.0)) h.1;
    }

pub returns-clause-ended : goal.returns-clause-ended
returns-clause-ended g c done told =
    let i = c.loop-visitor.invariant in
    let v = i.visits in
    let m = c.args.cursor.now.area.medium in
    let all = c.next_selected.new.cursor.told in (
      v.0,
      (visited_all v.0 (λ rs. v.2 told all rs)
          (λ rest. next_at c.args.saves.now.table (asked c.args.query.now) c.loop-visitor.cursor c.next_selected.new.cursor c.next_selected.new.item c.in_ok-next_selected.field-0 false
          (g.M.Media.disk c.args.media.now).reads (g.M.Media.disk c.loop-visitor.media).reads c.loop-visitor.cursor.area.medium m (i.unchanged.reads told) (ap (λ (a : Area). a.medium) i.area) c.if-branch.false
          (c.in_ok-next_selected.ensures.gives told) rest all) v.0).1 (refl, refl),
    )

pub loop-visitor-init : goal.loop-visitor-init
loop-visitor-init g c = record {
  area = refl;
  heads = refl;
  unchanged = search rules;
  spent = omega arith;
  others = λ k other. refl;
  later = search rules;
  output = omega arith;
  visits = (
    [],
    λ first had. (had, Appends-nil (g.O.Sink.taken c.args.out.now)),
    λ told all records. (λ l. (records, refl, l), λ x. subst (λ (rs : List Record). IsLeft (content (g.M.Media.disk c.args.media.now).reads c.args.cursor.now.area.medium) c.args.saves.now.table c.args.cursor.now (asked c.args.query.now) rs all) (sym x.1) x.2),
  );
}

pub loop-visitor-preserved : goal.loop-visitor-preserved
loop-visitor-preserved g c =
    let i = c.loop-visitor.invariant in
    let v = i.visits in
    let r = c.next_selected.new.item in
    let m = c.args.cursor.now.area.medium in
    let medium = ap (λ (a : Area). a.medium) i.area in
    record {
      area = c.next_selected.ensures.area ∙ i.area;
      heads = c.next_selected.ensures.heads ∙ i.heads;
      unchanged = unchanged_join _ _ _ i.unchanged c.next_selected.ensures.unchanged;
      spent = left_at _ _ c.in_ok-next_selected.was (spent_on m _ _ _ _ _ _ _ _ medium i.spent c.next_selected.ensures.spends);
      others = others_on _ _ _ _ _ medium i.others c.next_selected.ensures.others;
      later = none_falls_join _ _ _ i.later c.next_selected.ensures.cause.later;
      output = let a = i.output in let b = c.visit.ensures.cause.later in omega (arith, a, b);
      visits = (
        v.0 ++ r ∷ [],
        λ first had. let h = v.1 first had in (c.in_ok-visit.ensures.has first v.0 h.0, printed_next (g.V.Visitor.line first) v.0 r _ _ _ h.1 (c.in_ok-visit.ensures.printed first v.0 h.0)),
        λ told all records. visited_next v.0 (λ rs. v.2 told all rs) r
            (λ rest. next_at c.args.saves.now.table (asked c.args.query.now) c.loop-visitor.cursor c.next_selected.new.cursor r c.in_ok-next_selected.field-0 true
            (g.M.Media.disk c.args.media.now).reads (g.M.Media.disk c.loop-visitor.media).reads c.loop-visitor.cursor.area.medium m (i.unchanged.reads told) medium c.if-branch.true
            (c.in_ok-next_selected.ensures.gives told) rest all) records,
      );
    }

use Rattle.std.proofs.Common.{◌∙◌, Bool, Result, Ok, Err, refl, sym, ap, subst, arith, [], ◌∷◌, ◌++◌}
use Rattle.std.proofs.KnownBytes.{Appends-nil}
use Rattle.std.proofs.lemmas.Result.{err_from_is_err_and}
use Rattle.vdr_durability.specs.Playback.{medium_of, selected}
use Rattle.vdr_outside.proofs.Counts.{none_falls_join}
use Rattle.vdr_outside.proofs.Moments.{unchanged_join}
use Rattle.vdr_entry.specs.Queries.{asked, asked_medium}
use Rattle.vdr_ring.specs.declared.refused.ReadRefused.{ReadRefused}
use Rattle.vdr_vault.specs.Plays.{AreToCome, HasReadCause}
use Rattle.vdr_ring.specs.Walks.{GivesNext}
use Rattle.vdr_visit.specs.Prints.{text_of}
use Rattle.vdr_visit.specs.Refusals.{stop_of}
use Rattle.vdr_vault.proofs.Between.{all_visited, at_first, failed_behind, read_failed, still_has, visited_next, with_next}
use Rattle.vdr_vault.proofs.Damages.{none_told, passed_first, passed_next, refused_first, refused_told, whole_first, whole_next, whole_told}
use Rattle.vdr_visit.proofs.Printing.{front_of, front_of_none, printed_next, stopped_front, stopped_made, stopped_text, text_at}
use Rattle.vdr_vault.proofs.Reading.{left_of, reads_join, reads_keep_failed}
use Rattle.vdr_vault.proofs.Stopping.{not_by_visitor, output_cause, stopped, visit_cause}
use Rattle.vdr_vault.proofs.each.visit_each.Goals as goal

pub returns-in-Err-clause-visited : goal.returns-in-Err-clause-visited
returns-in-Err-clause-visited g c first had =
    let is = ap Err c.stop_by.ensures in
    record {
      seen = [];
      made = still_has _ _ (g.V.Visitor.line first) (text_of (g.V.Visitor.line first) []) [] _ _ c.in-Err.refused (Err c.stop_by.result) had (Appends-nil _) is;
      are = λ opening events placed told readable.
          read_failed (selected opening events (asked c.args.query.now)) [] (selected opening events (asked c.args.query.now)) c.in-Err.refused c.first.result c.first.new.cursor.visit.item
          (AreToCome (asked c.args.query.now) c.first.new.self placed (g.M.Media.disk c.first.new.media) c.first.new.cursor) (Err c.stop_by.result) refl
          (c.first.ensures.plays opening events placed told readable) c.in-Err.is is;
      front = λ opening events placed told readable. front_of_none _ _;
    }

pub returns-in-Err-clause-bound : goal.returns-in-Err-clause-bound
returns-in-Err-clause-bound g c = record { others = c.first.ensures.reads.counts; own = c.first.ensures.spends.within }

pub returns-in_err-visit-clause-bound : goal.returns-in_err-visit-clause-bound
returns-in_err-visit-clause-bound g c = let i = c.loop-found.invariant in record { others = i.counts; own = let spent = i.spent in omega (arith, spent) }

pub returns-in-Err-next-clause-bound : goal.returns-in-Err-next-clause-bound
returns-in-Err-next-clause-bound g c =
    let i = c.loop-found.invariant in
    record {
      others = λ k other. c.next.ensures.reads.counts k other ∙ i.counts k other;
      own = let before = i.spent in let now = c.next.ensures.spends.within in omega (arith, before, now);
    }

pub returns-clause-bound : goal.returns-clause-bound
returns-clause-bound g c = let i = c.loop-found.invariant in record { others = i.counts; own = let spent = i.spent in omega (arith, spent) }

pub loop-found-init : goal.loop-found-init
loop-found-init g c = record {
  rings = c.first.ensures.keeps.rings;
  reads = c.first.ensures.keeps.vault;
  unchanged = c.first.ensures.keeps.unchanged;
  counts = c.first.ensures.reads.counts;
  spent = left_of (c.in-Ok.is) c.first.ensures.spends.left;
  later = c.first.ensures.reads.cause.later;
  output = omega arith;
  may = c.first.ensures.cursor.may;
  item = λ some. c.first.ensures.cursor.item.1 (c.in-Ok.is ∙ ap (λ (b : Bool). Ok b) some);
  judged = c.first.ensures.keeps.judged;
  passing = passed_first c.args.media.now c.first.new.media c.first.ensures.steps;
  whole = whole_first c.args.media.now c.first.new.media c.first.ensures.steps c.in-Ok.found c.in-Ok.is;
  stands = c.first.ensures.keeps.stands;
  readable = c.first.ensures.keeps.readable;
  visits = λ first had. (
    [],
    had,
    Appends-nil (g.O.Sink.taken c.args.out.now),
    λ opening events placed told readable.
        at_first (selected opening events (asked c.args.query.now)) c.in-Ok.found c.first.new.cursor.visit.item
        (AreToCome (asked c.args.query.now) c.first.new.self placed (g.M.Media.disk c.first.new.media) c.first.new.cursor)
        (subst (λ (r : Result Bool ReadRefused). GivesNext (selected opening events (asked c.args.query.now)) r c.first.new.cursor.visit.item
        (AreToCome (asked c.args.query.now) c.first.new.self placed (g.M.Media.disk c.first.new.media) c.first.new.cursor))
        c.in-Ok.is (c.first.ensures.plays opening events placed told readable)),
  );
}

pub returns-in_err-visit-clause-visited : goal.returns-in_err-visit-clause-visited
returns-in_err-visit-clause-visited g c first had =
    let v = c.loop-found.invariant.visits first had in
    let r = c.in-Some.item.now in
    let p = err_from_is_err_and c.from_residual.result c.from_residual.ensures.1 in
    let is = stopped c.in_err-visit.field-0.0 p.0 c.from_residual.result p.1 p.2 in
    record {
      seen = v.0 ++ r ∷ [];
      made =
          stopped_made _ _ (g.V.Visitor.line first) _ v.0 _ _ _ c.in_err-visit.field-0.0 c.visit.result c.from_residual.result c.in_err-visit.was is v.2
          (v.0 ++ r ∷ []) (r ∷ []) refl (g.V.Visitor.line first v.0 r) (c.visit.ensures.printed first v.0 v.1) (c.visit.ensures.stops first v.0 v.1);
      are = λ opening events placed told readable.
          stopped_front c.in_err-visit.field-0.0 c.from_residual.result is (v.0 ++ r ∷ []) (selected opening events (asked c.args.query.now))
          (with_next (v.3 opening events placed told readable) c.loop-found-test.true r (sym c.in-Some.ensures));
      front = λ opening events placed told readable.
          let w = with_next (v.3 opening events placed told readable) c.loop-found-test.true r (sym c.in-Some.ensures) in
          stopped_text (g.V.Visitor.line first) v.0 _ _ _ c.in_err-visit.field-0.0 c.visit.result c.in_err-visit.was v.2 (g.V.Visitor.line first v.0 r) _ _
          (text_at (g.V.Visitor.line first) v.0 r w.0 (selected opening events (asked c.args.query.now)) w.1) (c.visit.ensures.printed first v.0 v.1);
    }

pub returns-in_err-visit-clause-output : goal.returns-in_err-visit-clause-output
returns-in_err-visit-clause-output g c =
    let p = err_from_is_err_and c.from_residual.result c.from_residual.ensures.1 in
    output_cause c.in_err-visit.field-0.0 c.visit.result c.from_residual.result c.in_err-visit.was (stopped c.in_err-visit.field-0.0 p.0 c.from_residual.result p.1 p.2)
    (g.O.Sink.faults c.args.out.now) (g.O.Sink.faults c.loop-found.out) (g.O.Sink.faults c.visit.new.out) c.loop-found.invariant.output c.visit.ensures.cause

pub returns-in-Err-next-clause-read : goal.returns-in-Err-next-clause-read
returns-in-Err-next-clause-read g c =
    let i = c.loop-found.invariant in
    record {
      vault = reads_join (medium_of (asked_medium c.args.query.now.medium)) c.args.vault.now c.loop-found.vault c.next.new.self i.reads c.next.ensures.keeps.vault;
      rings = c.next.ensures.keeps.rings;
      unchanged = unchanged_join (g.M.Media.disk c.args.media.now) (g.M.Media.disk c.loop-found.media) (g.M.Media.disk c.next.new.media) i.unchanged c.next.ensures.keeps.unchanged;
      counts = λ k other. c.next.ensures.reads.counts k other ∙ i.counts k other;
      judged = λ judged. c.next.ensures.keeps.judged (i.judged judged);
      stands = λ opening events placed stands. c.next.ensures.keeps.stands opening events placed (i.stands opening events placed stands);
      readable = λ opening events placed h. c.next.ensures.keeps.readable opening events placed (i.readable opening events placed h);
    }

pub returns-in-Err-next-clause-visited : goal.returns-in-Err-next-clause-visited
returns-in-Err-next-clause-visited g c first had =
    let i = c.loop-found.invariant in
    let v = i.visits first had in
    let r = c.in-Some.item.now in
    let is = ap Err c.stop_by-in-Err-next.ensures in
    let printed = printed_next (g.V.Visitor.line first) v.0 r _ _ _ v.2 (c.in_ok-visit.ensures.printed first v.0 v.1) in
    record {
      seen = v.0 ++ r ∷ [];
      made = still_has _ _ (g.V.Visitor.line first) (text_of (g.V.Visitor.line first) (v.0 ++ r ∷ [])) (v.0 ++ r ∷ []) _ _ c.in-Err-next.refused (Err c.stop_by-in-Err-next.result) (c.in_ok-visit.ensures.has first v.0 v.1) printed is;
      are = λ opening events placed told readable.
          failed_behind (v.3 opening events placed told readable) c.loop-found-test.true r (sym c.in-Some.ensures) c.next.result c.next.new.cursor.visit.item
          (AreToCome (asked c.args.query.now) c.next.new.self placed (g.M.Media.disk c.next.new.media) c.next.new.cursor)
          (λ rs come. c.next.ensures.plays opening events placed rs told (i.readable opening events placed readable) come)
          c.in-Err-next.refused (Err c.stop_by-in-Err-next.result) c.in-Err-next.is is;
      front = λ opening events placed told readable.
          let w = with_next (v.3 opening events placed told readable) c.loop-found-test.true r (sym c.in-Some.ensures) in
          front_of (g.V.Visitor.line first) (v.0 ++ r ∷ []) w.0 (selected opening events (asked c.args.query.now)) _ _ w.1 printed;
    }

pub returns-in-Err-next-clause-cause : goal.returns-in-Err-next-clause-cause
returns-in-Err-next-clause-cause g c =
    let m = medium_of (asked_medium c.args.query.now.medium) in
    let kept = reads_keep_failed m c.args.vault.now c.loop-found.vault c.loop-found.invariant.reads in
    visit_cause c.in-Err-next.refused c.next.result (Err c.stop_by-in-Err-next.result) c.in-Err-next.is
    (ap Err c.stop_by-in-Err-next.ensures) m c.args.vault.now.failed
    (g.M.Media.faults c.args.media.now) (g.M.Media.faults c.loop-found.media) (g.M.Media.faults c.next.new.media) c.loop-found.invariant.later
    (subst (λ (b : Bool). HasReadCause m b (g.M.Media.faults c.loop-found.media) (g.M.Media.faults c.next.new.media) c.next.result) kept c.next.ensures.reads.cause)

pub loop-found-preserved : goal.loop-found-preserved
loop-found-preserved g c =
    let m = medium_of (asked_medium c.args.query.now.medium) in
    let i = c.loop-found.invariant in
    record {
      rings = c.next.ensures.keeps.rings;
      reads = reads_join m c.args.vault.now c.loop-found.vault c.next.new.self i.reads c.next.ensures.keeps.vault;
      unchanged = unchanged_join (g.M.Media.disk c.args.media.now) (g.M.Media.disk c.loop-found.media) (g.M.Media.disk c.next.new.media) i.unchanged c.next.ensures.keeps.unchanged;
      counts = λ k other. c.next.ensures.reads.counts k other ∙ i.counts k other;
      spent = let before = i.spent in let now = left_of c.in-Ok-next.is c.next.ensures.spends.left in omega (arith, before, now);
      later = none_falls_join (g.M.Media.faults c.args.media.now) (g.M.Media.faults c.loop-found.media) (g.M.Media.faults c.next.new.media) i.later c.next.ensures.reads.cause.later;
      output = let before = i.output in let now = c.visit.ensures.cause.later in omega (arith, before, now);
      may = c.next.ensures.cursor.may;
      item = λ some. c.next.ensures.cursor.item.1 (c.in-Ok-next.is ∙ ap (λ (b : Bool). Ok b) some);
      judged = λ judged. c.next.ensures.keeps.judged (i.judged judged);
      passing = passed_next c.args.media.now c.loop-found.media c.next.new.media i.passing i.reads i.unchanged i.judged c.next.ensures.steps;
      whole =
          whole_next c.args.media.now c.loop-found.media c.next.new.media i.passing i.reads i.unchanged i.judged c.next.ensures.steps
          c.in-Ok-next.found c.in-Ok-next.is;
      stands = λ opening events placed stands. c.next.ensures.keeps.stands opening events placed (i.stands opening events placed stands);
      readable = λ opening events placed h. c.next.ensures.keeps.readable opening events placed (i.readable opening events placed h);
      visits = λ first had.
          let v = i.visits first had in (
            v.0 ++ c.in-Some.item.now ∷ [],
            c.in_ok-visit.ensures.has first v.0 v.1,
            printed_next (g.V.Visitor.line first) v.0 c.in-Some.item.now _ _ _ v.2 (c.in_ok-visit.ensures.printed first v.0 v.1),
            λ opening events placed told readable.
                visited_next (v.3 opening events placed told readable) c.loop-found-test.true c.in-Some.item.now (sym c.in-Some.ensures) c.next.result c.next.new.cursor.visit.item
                (AreToCome (asked c.args.query.now) c.next.new.self placed (g.M.Media.disk c.next.new.media) c.next.new.cursor)
                (λ rs come. c.next.ensures.plays opening events placed rs told (i.readable opening events placed readable) come)
                c.in-Ok-next.found c.in-Ok-next.is,
          );
    }

pub returns-clause-visited : goal.returns-clause-visited
returns-clause-visited g c first had =
    let v = c.loop-found.invariant.visits first had in
    record {
      seen = v.0;
      made = (v.1, v.2);
      are = λ opening events placed told readable. all_visited (v.3 opening events placed told readable) c.loop-found-test.false;
      front = λ opening events placed told readable.
          front_of (g.V.Visitor.line first) v.0 (v.3 opening events placed told readable).rest (selected opening events (asked c.args.query.now)) _ _ (v.3 opening events placed told readable).split v.2;
    }

pub returns-in-Err-clause-damage : goal.returns-in-Err-clause-damage
returns-in-Err-clause-damage g c = refused_first c.args.media.now c.first.new.media c.first.ensures.steps c.in-Err.refused (Err c.stop_by.result) c.in-Err.is (ap Err c.stop_by.ensures)

pub returns-in_err-visit-clause-damage : goal.returns-in_err-visit-clause-damage
returns-in_err-visit-clause-damage g c =
    let p = err_from_is_err_and c.from_residual.result c.from_residual.ensures.1 in
    let is = stopped c.in_err-visit.field-0.0 p.0 c.from_residual.result p.1 p.2 in
    none_told (asked c.args.query.now) c.args.vault.now (g.M.Media.disk c.args.media.now) (stop_of c.in_err-visit.field-0.0)
    c.from_residual.result is (not_by_visitor c.in_err-visit.field-0.0 c.from_residual.result is)

pub returns-in-Err-next-clause-damage : goal.returns-in-Err-next-clause-damage
returns-in-Err-next-clause-damage g c =
    let i = c.loop-found.invariant in
    refused_told c.args.media.now c.loop-found.media c.next.new.media i.passing i.reads i.unchanged i.judged c.next.ensures.steps
    c.in-Err-next.refused (Err c.stop_by-in-Err-next.result) c.in-Err-next.is (ap Err c.stop_by-in-Err-next.ensures)

pub returns-clause-damage : goal.returns-clause-damage
returns-clause-damage g c = whole_told (asked c.args.query.now) c.args.vault.now (g.M.Media.disk c.args.media.now) (c.loop-found.invariant.whole c.loop-found-test.false)

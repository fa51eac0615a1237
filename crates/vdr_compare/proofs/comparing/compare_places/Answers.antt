use Rattle.std.proofs.Common.{None, Some, ◌∙◌, arith}
use Rattle.std.proofs.lemmas.Result.{err_from_is_err_and}
use Rattle.vdr_outside.specs.Disk.{content}
use Rattle.vdr_outside.proofs.Counts.{none_falls_join}
use Rattle.vdr_outside.proofs.Moments.{unchanged_join}
use Rattle.vdr_compare.proofs.Causes.{compare_failed}
use Rattle.vdr_compare.proofs.Going.{front_here, front_next, gone_all, gone_next, step_on, tallies_failed}
use Rattle.vdr_compare.proofs.comparing.compare_places.Goals as goal

pub returns-in_err-standing-clause-tallies : goal.returns-in_err-standing-clause-tallies
returns-in_err-standing-clause-tallies g c told ahead a =
    let v = c.loop-standing.invariant.goes told ahead a in
    let p = err_from_is_err_and c.from_residual.result c.from_residual.ensures.1 in
    tallies_failed _ _ _ _ c.from_residual.result p.0 p.1 (front_here _ _ c.loop-standing.capsule c.loop-standing.longterm c.loop-standing.capsule c.loop-standing.longterm _ _ _ _ _ v)

pub returns-in_err-standing-clause-cause : goal.returns-in_err-standing-clause-cause
returns-in_err-standing-clause-cause g c =
    let i = c.loop-standing.invariant in
    let p = err_from_is_err_and c.from_residual.result c.from_residual.ensures.1 in
    compare_failed _ _ _ _ _ c.next_standing.result c.in_err-standing.field-0.0 c.from_residual.result p.0 c.in_err-standing.was p.1 p.2 i.later c.next_standing.ensures.cause i.output

pub returns-in_err-tally-clause-tallies : goal.returns-in_err-tally-clause-tallies
returns-in_err-tally-clause-tallies g c told ahead a =
    let i = c.loop-standing.invariant in
    let v = i.goes told ahead a in
    let p = err_from_is_err_and c.from_residual-in_err-tally.result c.from_residual-in_err-tally.ensures.1 in
    let next = step_on _ _ _ _ _ _ c.next_standing.new.capsule c.next_standing.new.longterm c.in_ok-standing.field-0 (Some c.in-Some.standing)
    (λ j. content (i.unchanged.reads told j) ((i.capsule j).medium)) (λ j. content (i.unchanged.reads told j) ((i.longterm j).medium)) c.in-Some.is
    (c.in_ok-standing.ensures.gives told) v.rest v.are_ahead in
    tallies_failed _ _ _ _ c.from_residual-in_err-tally.result p.0 p.1
    (front_next _ _ c.loop-standing.capsule c.loop-standing.longterm c.next_standing.new.capsule c.next_standing.new.longterm _ _ _ _ _ v c.in-Some.standing next.0 next.1 _ c.add.ensures.front)

pub loop-standing-preserved : goal.loop-standing-preserved
loop-standing-preserved g c =
    let i = c.loop-standing.invariant in
    record {
      capsule = c.next_standing.ensures.areas.0 ∙ i.capsule;
      longterm = c.next_standing.ensures.areas.1 ∙ i.longterm;
      unchanged = unchanged_join _ _ _ i.unchanged c.next_standing.ensures.unchanged;
      later = none_falls_join _ _ _ i.later c.next_standing.ensures.cause.later;
      output = let x = i.output in let y = c.add.ensures.cause.later in omega (arith, x, y);
      goes = λ told ahead a.
          let v = i.goes told ahead a in
          let next = step_on _ _ _ _ _ _ c.next_standing.new.capsule c.next_standing.new.longterm c.in_ok-standing.field-0 (Some c.in-Some.standing)
          (λ j. content (i.unchanged.reads told j) ((i.capsule j).medium)) (λ j. content (i.unchanged.reads told j) ((i.longterm j).medium)) c.in-Some.is
          (c.in_ok-standing.ensures.gives told) v.rest v.are_ahead in
          gone_next _ _ c.loop-standing.capsule c.loop-standing.longterm c.next_standing.new.capsule c.next_standing.new.longterm _ _ _ _ _ v c.in-Some.standing next.0 next.1 _ _
          c.in_ok-tally.ensures.tally c.in_ok-tally.ensures.all next.2;
    }

pub returns-clause-tallies : goal.returns-clause-tallies
returns-clause-tallies g c told ahead a =
    let i = c.loop-standing.invariant in
    let v = i.goes told ahead a in
    gone_all _ _ c.loop-standing.capsule c.loop-standing.longterm c.next_standing.new.capsule c.next_standing.new.longterm _ _ _ _ _ v
    (step_on _ _ _ _ _ _ c.next_standing.new.capsule c.next_standing.new.longterm c.in_ok-standing.field-0 None
    (λ j. content (i.unchanged.reads told j) ((i.capsule j).medium)) (λ j. content (i.unchanged.reads told j) ((i.longterm j).medium)) c.in_default.is
    (c.in_ok-standing.ensures.gives told) v.rest v.are_ahead)

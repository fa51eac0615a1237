use Rattle.std.proofs.Common.{◌≤◌, rules, ℕ, List, length, subst, sym, ◌∙◌, arith}
use Rattle.std.proofs.lemmas.Bool.{false≢true}
use Rattle.std.proofs.lemmas.List.{take_rest}
use Rattle.vdr_segment.proofs.WalkLemmas.{Left, left_more, left_stuck, left_done, begun_size, nonzero_of, zero_of}
use Rattle.vdr_ring.proofs.visit.are_records.Goals as goal

pub slice_bounds-rest-count : goal.slice_bounds-rest-count
slice_bounds-rest-count c = let f = c.in-Some.ensures.found in omega (arith, f.3, begun_size c.loop-rest.rest.now f.1 f.0 f.2)

pub slice_bounds-rest-start : goal.slice_bounds-rest-start
slice_bounds-rest-start c =
    let f = c.in-Some.ensures.found in
    let within : c.in-Some.size ≤ length c.loop-rest.rest.now = omega (arith, f.3, begun_size c.loop-rest.rest.now f.1 f.0 f.2) in
    search rules

pub loop-rest-preserved : goal.loop-rest-preserved
loop-rest-preserved c =
    let f = c.in-Some.ensures.found in
    subst (λ (xs : List ℕ). Left c.args.bytes.now xs) (sym (take_rest c.loop-rest.rest.now c.in-Some.size)) (left_more _ c.loop-rest.rest.now f.1 f.0 c.in-Some.size f.2 f.3 c.loop-rest.invariant)

pub returns-in-None : goal.returns-in-None
returns-in-None c = (
  λ e. absurd (false≢true e),
  λ h. absurd (left_stuck _ c.loop-rest.rest.now c.loop-rest.invariant (nonzero_of _ (sym c.is_empty.ensures ∙ c.loop-rest-test.true)) c.in-None.ensures.none h),
)

pub returns : goal.returns
returns c = (
  λ e. left_done _ c.loop-rest.rest.now c.loop-rest.invariant (zero_of _ (sym c.is_empty.ensures ∙ c.loop-rest-test.false)),
  λ h. search rules,
)

use Rattle.std.proofs.Common.{rules, ◌≤◌, ℕ, List, length, subst, sym, ◌∙◌, arith}
use Rattle.std.proofs.lemmas.List.{take_rest}
use Rattle.vdr_segment.proofs.WalkLemmas.{begun_size, nonzero_of, zero_of}
use Rattle.vdr_index.proofs.StretchLemmas.{Midway, some_begin, midway_begun, midway_more, midway_done}
use Rattle.vdr_index.proofs.stretch.stretch_in.Goals as goal

pub mark_at-size-requires : goal.mark_at-size-requires
mark_at-size-requires c = some_begin _ c.requires.some c.requires.legal.0 c.requires.legal.1

pub slice_bounds-rest-count : goal.slice_bounds-rest-count
slice_bounds-rest-count c = let f = c.mark_at-size.ensures in omega (arith, f.5, begun_size _ f.1 f.0 f.2)

pub slice_bounds-rest-start : goal.slice_bounds-rest-start
slice_bounds-rest-start c =
    let f = c.mark_at-size.ensures in
    let within : c.mark_at-size.result.2 ≤ length c.args.bytes.now = omega (arith, f.5, begun_size _ f.1 f.0 f.2) in
    search rules

pub loop-rest-init : goal.loop-rest-init
loop-rest-init c =
    let f = c.mark_at-size.ensures in
    subst (λ (xs : List ℕ). Midway c.args.bytes.now xs c.one-stretch.result) (sym (take_rest c.args.bytes.now c.mark_at-size.result.2))
    (midway_begun _ f.1 f.0 _ _ f.2 f.5 (c.one-stretch.ensures f.0 f.3 f.4) c.requires.legal.0 c.requires.legal.1 c.requires.some)

pub mark_at-size-requires-in-loop-rest : goal.mark_at-size-requires-in-loop-rest
mark_at-size-requires-in-loop-rest c = some_begin _ (nonzero_of _ (sym c.is_empty.ensures ∙ c.loop-rest-test.true)) c.loop-rest.invariant.left c.loop-rest.invariant.ahead

pub slice_bounds-rest-count-in-loop-rest : goal.slice_bounds-rest-count-in-loop-rest
slice_bounds-rest-count-in-loop-rest c = let f = c.mark_at-size-in-loop-rest.ensures in omega (arith, f.5, begun_size _ f.1 f.0 f.2)

pub slice_bounds-rest-start-in-loop-rest : goal.slice_bounds-rest-start-in-loop-rest
slice_bounds-rest-start-in-loop-rest c =
    let f = c.mark_at-size-in-loop-rest.ensures in
    let within : c.mark_at-size-in-loop-rest.result.2 ≤ length c.loop-rest.rest.now = omega (arith, f.5, begun_size _ f.1 f.0 f.2) in
    search rules

pub loop-rest-preserved : goal.loop-rest-preserved
loop-rest-preserved c =
    let f = c.mark_at-size-in-loop-rest.ensures in
    let m = c.loop-rest.invariant in
    subst (λ (xs : List ℕ). Midway c.args.bytes.now xs c.with-stretch.result) (sym (take_rest c.loop-rest.rest.now c.mark_at-size-in-loop-rest.result.2))
    (midway_more _ _ f.1 f.0 _ _ _ m f.2 f.5 (c.with-stretch.ensures m.met f.0 m.comes f.3 f.4) (nonzero_of _ (sym c.is_empty.ensures ∙ c.loop-rest-test.true)))

pub returns : goal.returns
returns c = midway_done _ _ _ c.loop-rest.invariant (zero_of _ (sym c.is_empty.ensures ∙ c.loop-rest-test.false))

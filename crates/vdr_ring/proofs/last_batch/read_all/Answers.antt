use Rattle.std.proofs.Common.{◌≤◌, ◌<◌, rules, ℕ, List, length, drop, subst, sym, arith, length-drop}
use Rattle.std.proofs.lemmas.List.{take_rest}
use Rattle.vdr_terms.specs.Records.{Record}
use Rattle.vdr_segment.proofs.WalkLemmas.{begun_size}
use Rattle.vdr_ring.proofs.LastBatch.{LeavesRecords, leaves_all, leaves_less, leaves_none}
use Rattle.vdr_ring.proofs.last_batch.read_all.Goals as goal

pub loop-item-init : goal.loop-item-init
loop-item-init c = subst (λ (rs : List Record). LeavesRecords c.args.bytes.now rs c.args.bytes.now) (sym c.new-read.ensures.items) (leaves_all c.args.bytes.now)

pub slice_bounds-rest-count : goal.slice_bounds-rest-count
slice_bounds-rest-count c = let f = c.in-Some.ensures.found in omega (arith, f.2, begun_size c.loop-item.rest.now f.0 _ f.1)

pub slice_bounds-rest-start : goal.slice_bounds-rest-start
slice_bounds-rest-start c =
    let f = c.in-Some.ensures.found in
    let within : c.in-Some.size ≤ length c.loop-item.rest.now = omega (arith, f.2, begun_size c.loop-item.rest.now f.0 _ f.1) in
    search rules

pub loop-item-smaller : goal.loop-item-smaller
loop-item-smaller c =
    let f = c.in-Some.ensures.found in
    let size = begun_size c.loop-item.rest.now f.0 _ f.1 in
    subst (λ (xs : List ℕ). length xs < length c.loop-item.rest.now) (sym (take_rest c.loop-item.rest.now c.in-Some.size)) (omega (arith, f.2, size, length-drop c.in-Some.size c.loop-item.rest.now))

pub loop-item-preserved : goal.loop-item-preserved
loop-item-preserved c =
    let f = c.in-Some.ensures.found in
    subst (λ (xs : List ℕ). LeavesRecords c.args.bytes.now c.push.new.self.items xs) (sym (take_rest c.loop-item.rest.now c.in-Some.size))
    (subst (λ (rs : List Record). LeavesRecords c.args.bytes.now rs (drop c.in-Some.size c.loop-item.rest.now)) (sym c.in_ok-push.ensures.items)
    (leaves_less c.args.bytes.now _ c.loop-item.rest.now f.0 _ c.in-Some.size f.1 f.2 c.loop-item.invariant))

pub returns-clause-size : goal.returns-clause-size
returns-clause-size c = let h = c.loop-item.invariant.size in omega (arith, h)

pub returns-clause-all : goal.returns-clause-all
returns-clause-all c = leaves_none c.args.bytes.now _ c.loop-item.rest.now c.in_default.ensures.none c.loop-item.invariant

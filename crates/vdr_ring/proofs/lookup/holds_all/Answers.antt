use Rattle.std.proofs.Common.{rules, arith, sym, ◌∙◌}
use Rattle.std.proofs.lemmas.Bool.{false≢true}
use Rattle.vdr_index.proofs.Ranks.{none_from}
use Rattle.vdr_ring.proofs.Holding.{left_all, left_clear, left_done, left_found, left_next, left_still}
use Rattle.vdr_ring.proofs.lookup.holds_all.Goals as goal

pub loop-slot-init : goal.loop-slot-init
loop-slot-init c = (omega arith, omega (arith, c.if-a-b.false), left_all c.args.a c.args.index.now c.in_order-order.result.now)

pub loop-slot-preserved-in_default : goal.loop-slot-preserved-in_default
loop-slot-preserved-in_default c =
    let i = c.loop-slot.invariant in
    (i.0, i.1, left_clear c.args.index.now c.in_order-order.result.now c.in_order-order.ensures c.args.a c.loop-slot.place c.args.b c.loop-slot.slot-index c.loop-slot-test.true i.2 (sym c.known.ensures ∙ none_from _ c.in_default.not-Some))

pub loop-slot-preserved-then-not-has_place : goal.loop-slot-preserved-then-not-has_place
loop-slot-preserved-then-not-has_place c =
    let i = c.loop-slot.invariant in (
      i.0,
      i.1,
      left_still c.args.index.now c.in_order-order.result.now c.in_order-order.ensures c.args.a c.loop-slot.place c.args.b c.loop-slot.slot-index c.loop-slot-test.true i.2 c.in-Some.known (sym c.known.ensures ∙ c.in-Some.is)
          (λ has. false≢true (sym c.if-not-has_place.true ∙ c.has_place.ensures.1 has)),
    )

pub returns-then-has_place : goal.returns-then-has_place
returns-then-has_place c count known x apart =
    let i = c.loop-slot.invariant in (
      λ e. left_found c.args.index.now c.in_order-order.result.now c.in_order-order.ensures c.args.a c.loop-slot.place c.args.b c.loop-slot.slot-index c.loop-slot-test.true i.2 c.in-Some.known (sym c.known.ensures ∙ c.in-Some.is)
          (c.has_place.ensures.0 c.if-not-has_place.false) i.1 (c.has_place-in-loop-slot.ensures.0 c.if-has_place.true) count known x apart,
      λ all. search rules,
    )

pub loop-slot-preserved : goal.loop-slot-preserved
loop-slot-preserved c =
    let i = c.loop-slot.invariant in
    let has = c.has_place.ensures.0 c.if-not-has_place.false in
    (omega (arith, i.0, has.1), search rules, left_next c.args.index.now c.in_order-order.result.now c.in_order-order.ensures c.args.a c.loop-slot.place c.args.b c.loop-slot.slot-index c.loop-slot-test.true i.2 c.in-Some.known (sym c.known.ensures ∙ c.in-Some.is) has)

pub returns : goal.returns
returns c count known x apart =
    let i = c.loop-slot.invariant in (
      λ e. absurd (false≢true e),
      λ all. absurd (left_done c.args.index.now c.in_order-order.result.now c.in_order-order.ensures c.args.a c.loop-slot.place c.args.b c.loop-slot.slot-index i.0 i.1 (omega (arith, c.loop-slot-test.false)) i.2 count known x apart all),
    )

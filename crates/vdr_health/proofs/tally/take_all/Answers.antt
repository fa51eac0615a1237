use Rattle.std.proofs.Common.{◌≡◌, ◌≤◌, ◌++◌, List, length, take, ap, subst, arith}
use Rattle.std.proofs.lemmas.List.{take_all}
use Rattle.vdr_core.specs.Taken.{Captured}
use Rattle.vdr_health.specs.Tallies.{Tallies}
use Rattle.vdr_health.proofs.Items.{items_more}
use Rattle.vdr_health.proofs.tally.take_all.Goals as goal

pub loop-item-preserved : goal.loop-item-preserved
loop-item-preserved c = λ begun popped h.
    subst (λ (xs : List Captured). Tallies begun xs c.take_item.new.tally) (items_more popped c.args.items.now c.loop-item.item-index c.item-item.result c.loop-item-test.true c.item-item.is)
    (c.take_item.ensures begun (popped ++ take c.loop-item.item-index c.args.items.now) (c.loop-item.invariant begun popped h))

pub returns : goal.returns
returns c = λ begun popped h.
    let all : length c.args.items.now ≤ c.loop-item.item-index = omega (arith, c.loop-item-test.false) in
    subst (λ (xs : List Captured). Tallies begun (popped ++ xs) c.loop-item.tally) (take_all c.loop-item.item-index c.args.items.now all) (c.loop-item.invariant begun popped h)

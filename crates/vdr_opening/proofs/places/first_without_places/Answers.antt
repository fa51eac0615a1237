use Rattle.std.proofs.Common.{arith}
use Rattle.vdr_opening.proofs.ContentsHeld.{all_there, lacks}
use Rattle.vdr_opening.proofs.places.first_without_places.Goals as goal

pub returns-then-not-is_there-clause-some : goal.returns-then-not-is_there-clause-some
returns-then-not-is_there-clause-some c known tells order =
    lacks known _ _ _ _ c.requires c.loop-slot-test.true (c.loop-slot.invariant known tells order) (c.is_there.ensures known tells order) c.if-not-is_there.true

pub returns-clause-none : goal.returns-clause-none
returns-clause-none c known tells order =
    all_there known c.args.table.now c.args.slots c.requires (λ k lt. c.loop-slot.invariant known tells order k (omega (arith, lt, c.loop-slot-test.false)))

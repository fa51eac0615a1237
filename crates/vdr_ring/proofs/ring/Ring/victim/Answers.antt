use Rattle.std.proofs.Common.{inl, inr, List, ℕ, sym, subst}
use Rattle.vdr_directory.specs.Sequence.{Placed}
use Rattle.vdr_directory.specs.Order.{AreInOrder}
use Rattle.vdr_directory.specs.Holds.{Tells}
use Rattle.vdr_directory.specs.Closed.{IsFull, IsLeastClosed}
use Rattle.vdr_ring.proofs.ring.Ring.victim.Goals as goal

pub returns-in-Some-clause-next : goal.returns-in-Some-clause-next
returns-in-Some-clause-next c = rw (sym c.self.view_is) (λ placed tells order.
    inl (subst (λ (n : ℕ). (placed : List Placed) → Tells n placed c.self.inside.directory → AreInOrder placed → IsLeastClosed n placed c.in-Some.slot) c.self.invariant.0 c.in-Some.ensures.some placed tells order))

pub returns-in-None-clause-next : goal.returns-in-None-clause-next
returns-in-None-clause-next c = rw (sym c.self.view_is) (λ placed tells order.
    let full = subst (λ (n : ℕ). (placed : List Placed) → Tells n placed c.self.inside.directory → AreInOrder placed → IsFull n placed) c.self.invariant.0 c.in-None.ensures.none placed tells order in
    let v = (rw (sym c.self.view_is) at c.victim_slot.ensures.victim) placed tells order full in
    inr (full, v.0, v.1, v.2, v.3, v.4))

use Rattle.std.proofs.Common.{refl, sym, ◌++◌, ◌∙◌, List, ℕ, subst, arith}
use Rattle.std.proofs.lemmas.Result.{IfOk-from_err}
use Rattle.vdr_directory.specs.Sequence.{Placed}
use Rattle.vdr_directory.specs.Order.{AreInOrder}
use Rattle.vdr_directory.specs.Holds.{Tells}
use Rattle.vdr_directory.specs.Closed.{IsFull, IsLeastClosed}
use Rattle.vdr_ring.proofs.Staging.{newest_has_records}
use Rattle.vdr_ring.proofs.Freeing.{closed_count, freed_already, frees, freed_moments, freed_stands}
use Rattle.vdr_ring.proofs.Beginning.{legal_batches}
use Rattle.vdr_ring.proofs.ring.Ring.free_slot.Goals as goal

pub returns-in-Some-clause-freed : goal.returns-in-Some-clause-freed
returns-in-Some-clause-freed g c = rw (sym c.self.view_is) (λ placed first records told reads may no_room.
    freed_already _ c.args.pins.now placed c.in-Some.slot _ reads
    (subst (λ (n : ℕ). (placed : List Placed) → Tells n placed c.self.inside.directory → AreInOrder placed → IsLeastClosed n placed c.in-Some.slot) c.self.invariant.0 c.in-Some.ensures.some placed reads.directory reads.order))

pub returns-in_err-close_slot-clause-freed : goal.returns-in_err-close_slot-clause-freed
returns-in_err-close_slot-clause-freed g c = rw (sym c.self.view_is) (λ placed first records told reads may no_room.
    let full = subst (λ (n : ℕ). (placed : List Placed) → Tells n placed c.self.inside.directory → AreInOrder placed → IsFull n placed) c.self.invariant.0 c.in_default.ensures.none placed reads.directory reads.order in
    let v = (rw (sym c.self.view_is) at c.victim_slot-slot.ensures.victim) placed reads.directory reads.order full in (
      c.victim_slot-slot.result,
      v.0 ++ v.2,
      frees _ _ _ placed _ v full,
      freed_moments _ _ _ _ _ placed _ _ v _ _ told reads.settled reads.directory c.close_slot.ensures.moments,
      IfOk-from_err c.from_residual.result _ c.from_residual.ensures.0,
    ))

pub invariant_of-self : goal.invariant_of-self
invariant_of-self g c =
    let i = c.self.invariant in
    (closed_count c.self.inside.directory c.close.new.self _ c.close.ensures ∙ i.0, i.1, i.2, i.3, i.4)

pub returns-clause-freed : goal.returns-clause-freed
returns-clause-freed g c = rw (sym c.self.view_is) (λ placed first records told reads may no_room.
    let i = c.self.invariant in
    let full = subst (λ (n : ℕ). (placed : List Placed) → Tells n placed c.self.inside.directory → AreInOrder placed → IsFull n placed) i.0 c.in_default.ensures.none placed reads.directory reads.order in
    let v = (rw (sym c.self.view_is) at c.victim_slot-slot.ensures.victim) placed reads.directory reads.order full in (
      c.victim_slot-slot.result,
      v.0 ++ v.2,
      frees _ _ _ placed _ v full,
      freed_moments _ _ _ _ _ placed _ _ v _ _ told reads.settled reads.directory c.close_slot.ensures.moments,
      (
        refl,
        freed_stands _ _ _ _ _ placed _ _ v _ _ told reads.settled reads.directory _ refl refl refl c.close.ensures (rw (sym c.self.view_is) at c.victim_slot-slot.ensures.within) (omega (arith, i.3)) (omega (arith, i.2)) reads.order
            (newest_has_records _ placed records (legal_batches _ _ placed _ (reads.settled.reads told)) may.fits no_room) full c.in_ok-close_slot.ensures.settled,
      ),
    ))

use Rattle.std.proofs.Common.{inl, List, Option, None, ℕ, sym, subst, arith}
use Rattle.vdr_index.specs.declared.known.Known.{Known}
use Rattle.vdr_index.specs.Indexes.{IsAbove, IsNextAbove, Keeps}
use Rattle.vdr_ring.proofs.Choosing.{forced, none_forced}
use Rattle.vdr_ring.proofs.ring.Ring.victim_slot.Goals as goal

pub returns-in-Some-clause-victim : goal.returns-in-Some-clause-victim
returns-in-Some-clause-victim c = rw (sym c.self.view_is) (λ placed tells order full. let f = c.in-Some.ensures.some c.self.inside.area.slots placed tells order in (f.0, f.1, f.2, inl f.3, f.4))

pub returns-in-Some-next_above-clause-victim : goal.returns-in-Some-next_above-clause-victim
returns-in-Some-next_above-clause-victim c = rw (sym c.self.view_is) (λ placed tells order full.
    forced _ c.self.inside.area.slots _ placed c.self.inside.directory tells order (c.in_default.ensures.none c.self.inside.area.slots placed tells order) c.in-Some-next_above.slot
    (subst (λ (index : List (Option Known)). IsNextAbove index None c.in-Some-next_above.slot) c.index.ensures.index c.in-Some-next_above.ensures.some))

pub returns-in-None-clause-victim : goal.returns-in-None-clause-victim
returns-in-None-clause-victim c = rw (sym c.self.view_is) (λ placed tells order full.
    absurd (none_forced _ c.self.inside.area.slots _ placed c.self.inside.directory tells order (c.in_default.ensures.none c.self.inside.area.slots placed tells order)
    (subst (λ (index : List (Option Known)). (slot : ℕ) (k : Known) → Keeps index slot k → IsAbove None k.seq → ⊥) c.index.ensures.index c.in-None.ensures.none) (let i = c.self.invariant.2 in omega (arith, i)) full))

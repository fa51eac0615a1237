use Rattle.std.proofs.Common.{◌≡◌, List, ℕ, Option, sym, ◌∙◌, subst}
use Rattle.std.proofs.lemmas.Bool.{false≢true}
use Rattle.vdr_index.specs.declared.known.Known.{Known}
use Rattle.vdr_index.specs.Indexes.{IsAbove, IsNextAbove, Keeps}
use Rattle.vdr_ring.proofs.Asking.{next_empty, next_kept, none_above, none_next}
use Rattle.vdr_ring.proofs.ring.Ring.next_slot.Goals as goal

pub returns-in-Some-clause-some : goal.returns-in-Some-clause-some
returns-in-Some-clause-some c = rw (sym c.self.view_is) (λ placed tells order.
    let f = next_kept c.self.inside.area.slots placed c.self.inside.directory tells order c.args.after c.in-Some.slot c.with_seq.result.1
    (subst (λ (index : List (Option Known)). IsNextAbove index c.args.after c.in-Some.slot) c.index-index.ensures.index c.in-Some.ensures.some)
    (subst (λ (index : List (Option Known)). (k : Known) → Keeps index c.in-Some.slot k → c.with_seq.result.1 ≡ k.seq) c.index-index.ensures.index c.with_seq.ensures.seq) in
    (f.0, f.1, c.with_seq.ensures.slot ∙ f.2, f.3))

pub returns-in_err-newest-clause-none : goal.returns-in_err-newest-clause-none
returns-in_err-newest-clause-none c = rw (sym c.self.view_is, c.from_residual.ensures) (λ placed tells order.
    none_next c.self.inside.area.slots placed c.self.inside.directory tells order c.args.after
    (subst (λ (index : List (Option Known)). (slot : ℕ) (k : Known) → Keeps index slot k → IsAbove c.args.after k.seq → ⊥) c.index-index.ensures.index c.in_default.ensures.none)
    c.in_err-newest.ensures.none)

pub returns-then-not-is_above-clause-none : goal.returns-then-not-is_above-clause-none
returns-then-not-is_above-clause-none c = rw (sym c.self.view_is) (λ placed tells order.
    none_above c.self.inside.area.slots placed c.self.inside.directory tells order c.args.after
    (subst (λ (index : List (Option Known)). (slot : ℕ) (k : Known) → Keeps index slot k → IsAbove c.args.after k.seq → ⊥) c.index-index.ensures.index c.in_default.ensures.none)
    c.in_ok-newest.newest c.in_ok-newest.ensures.some.0 (λ up. false≢true (sym c.if-not-is_above.true ∙ c.is_above.ensures.1 up)))

pub returns-clause-some : goal.returns-clause-some
returns-clause-some c = rw (sym c.self.view_is) (λ placed tells order.
    next_empty c.self.inside.area.slots placed c.self.inside.directory tells order c.args.after
    (subst (λ (index : List (Option Known)). (slot : ℕ) (k : Known) → Keeps index slot k → IsAbove c.args.after k.seq → ⊥) c.index-index.ensures.index c.in_default.ensures.none)
    c.in_ok-newest.newest c.in_ok-newest.ensures.some.0 (c.is_above.ensures.0 c.if-not-is_above.false))

use Rattle.std.proofs.Common.{◌≡◌, List, None, Some, sym, ap, ◌∙◌, subst}
use mathlib.Core.Option.{some-injective}
use Rattle.vdr_latch.specs.Passes.{Passing, IsPossible}
use Rattle.vdr_latch.proofs.Ends.{closes_badge}
use Rattle.vdr_latch.proofs.latch.Latch.close.Goals as goal

pub unreachable-requires : goal.unreachable-requires
unreachable-requires g c =
    let r = c.pass.invariant in
    let x = closes_badge g.T.Stepped.leaves g.T.Stepped.leading _ _ _ _ _ c.into_seat.ensures.2 (ap (λ (p : Passing g.row.T-Event.Denot). p.parts) c.pass.view_is ∙ c.requires.parts) r.3 r.4 c.close_with-closed.ensures.values.2 in
    let there : Some x.0.0 ≡ c.take-value.result = some-injective (Some x.0.0) c.take-value.result (sym x.0.1 ∙ c.take-value.ensures.value) in
    let none : c.take-value.result ≡ None = c.in-None.is in
    cc (there, none)

pub returns-clause-value : goal.returns-clause-value
returns-clause-value g c =
    let r = c.pass.invariant in
    let x = closes_badge g.T.Stepped.leaves g.T.Stepped.leading _ _ _ _ _ c.into_seat.ensures.2 (ap (λ (p : Passing g.row.T-Event.Denot). p.parts) c.pass.view_is ∙ c.requires.parts) r.3 r.4 c.close_with-closed.ensures.values.2 in
    let there : Some x.0.0 ≡ c.take-value.result = some-injective (Some x.0.0) c.take-value.result (sym x.0.1 ∙ c.take-value.ensures.value) in
    let value : x.0.0 ≡ c.in-Some.value = cc (there, c.in-Some.is) in
    let seen = ap (λ (p : Passing g.row.T-Event.Denot). p.seen) c.pass.view_is in
    subst (λ (y : List g.row.T-Event.Denot × g.row.T.Denot). g.T.Stepped.leaves y.0 y.1) (λ i. (seen i, value i)) x.0.2

pub returns-clause-leads : goal.returns-clause-leads
returns-clause-leads g c =
    let r = c.pass.invariant in
    let x = closes_badge g.T.Stepped.leaves g.T.Stepped.leading _ _ _ _ _ c.into_seat.ensures.2 (ap (λ (p : Passing g.row.T-Event.Denot). p.parts) c.pass.view_is ∙ c.requires.parts) r.3 r.4 c.close_with-closed.ensures.values.2 in
    ap (λ (p : Passing g.row.T-Event.Denot). p.leads) (sym c.pass.view_is) ∙ x.1

pub returns-clause-possible : goal.returns-clause-possible
returns-clause-possible g c =
    let r = c.pass.invariant in
    let x = closes_badge g.T.Stepped.leaves g.T.Stepped.leading _ _ _ _ _ c.into_seat.ensures.2 (ap (λ (p : Passing g.row.T-Event.Denot). p.parts) c.pass.view_is ∙ c.requires.parts) r.3 r.4 c.close_with-closed.ensures.values.2 in
    subst (λ (p : Passing g.row.T-Event.Denot). IsPossible g.T.Stepped.leading p p.seen) c.pass.view_is x.2

use Rattle.std.proofs.Common.{◌≡◌, List, ℕ, [], rules, arith, refl, sym, ◌∙◌, subst}
use Rattle.std.proofs.lemmas.Grind.{common_steps}
use Rattle.std.proofs.lemmas.Result.{IfOk-from_err}
use Rattle.vdr_ring.specs.Bringing.{StandsAlike}
use Rattle.vdr_ring.proofs.Alike.{bare_is, brought_up, level_already, stands_first}
use Rattle.vdr_ring.proofs.ring.Ring.bring_up.Goals as goal

pub returns-then-is_empty-clause-brought : goal.returns-then-is_empty-clause-brought
returns-then-is_empty-clause-brought g c = rw (sym c.self.view_is) (λ placed told reads.
    let none : c.self.inside.bare.items ≡ [] = grind (arith, common_steps) in
    level_already placed (g.M.Media.disk c.args.media.now) _ reads none)

pub returns-in_err-summarize_all-clause-brought : goal.returns-in_err-summarize_all-clause-brought
returns-in_err-summarize_all-clause-brought g c = rw (sym c.self.view_is) (λ placed told reads.
    let some : c.self.inside.bare.items ≡ [] → ⊥ = search rules in
    let is = c.deref.ensures.value ∙ bare_is c.self.inside.bare.items placed reads.bare some in
    let b = c.summarize_all.ensures.brought placed told (subst (λ (bare : List ℕ). StandsAlike c.self.inside.area.medium c.self.inside.area.segment c.self.inside.area.slots placed c.self.inside.directory bare (g.M.Media.disk c.args.media.now)) (sym is) (stands_first placed (g.M.Media.disk c.args.media.now) _ reads)) in
    (b.0, IfOk-from_err c.from_residual.result _ c.from_residual.ensures.0))

pub returns-clause-brought : goal.returns-clause-brought
returns-clause-brought g c = rw (sym c.self.view_is) (λ placed told reads.
    let some : c.self.inside.bare.items ≡ [] → ⊥ = search rules in
    let is = c.deref.ensures.value ∙ bare_is c.self.inside.bare.items placed reads.bare some in
    let b = c.in_ok-summarize_all.ensures.brought placed told (subst (λ (bare : List ℕ). StandsAlike c.self.inside.area.medium c.self.inside.area.segment c.self.inside.area.slots placed c.self.inside.directory bare (g.M.Media.disk c.args.media.now)) (sym is) (stands_first placed (g.M.Media.disk c.args.media.now) _ reads)) in
    (b.0, brought_up placed _ _ _ refl c.clear.ensures.items b.1))

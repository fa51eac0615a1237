use Rattle.std.proofs.Common.{rules, ℕ, ℤ, option_map, sym, ap, ◌∙◌}
use Rattle.vdr_directory.specs.declared.newest.Ending.{Ending}
use Rattle.vdr_directory.proofs.Endings.{last_told, mapped}
use Rattle.vdr_ring.proofs.ring.Ring.last.Goals as goal

pub returns-clause-kept : goal.returns-clause-kept
returns-clause-kept c = rw (sym c.self.view_is)
    (mapped _ c.ending.result c.map.result _ c.map.ensures.cases (λ x y q. search rules) ∙ ap (option_map {U = ℕ × ℕ × ℤ} (λ (e : Ending). (e.place, e.tick, e.utc))) c.ending.ensures)

pub returns-clause-last : goal.returns-clause-last
returns-clause-last c = rw (sym c.self.view_is) (λ placed tells.
    mapped _ c.ending.result c.map.result _ c.map.ensures.cases (λ x y q. search rules) ∙ last_told placed c.ending.result (c.ending.ensures ∙ tells.ending))

pub returns-clause-known : goal.returns-clause-known
returns-clause-known c = rw (sym c.self.view_is) (λ known tells.
    mapped _ c.ending.result c.map.result _ c.map.ensures.cases (λ x y q. search rules) ∙ last_told known c.ending.result (c.ending.ensures ∙ tells.ending))

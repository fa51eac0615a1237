use Rattle.std.proofs.Common.{rules, refl, sym, ap, ◌∙◌, subst}
use Rattle.vdr_vault.specs.Vaults.{VaultState, Stands}
use Rattle.vdr_vault.specs.Saves.{Saves}
use Rattle.vdr_vault.proofs.Refusals.{no_fault_of_damage, not_failed, saves_so, stands_so}
use Rattle.vdr_vault.proofs.vault.Vault.save.Goals as goal

pub returns-clause-saves : goal.returns-clause-saves
returns-clause-saves g c opening events placed told stands accepted =
    let before = g.M.Media.disk c.args.media.now in
    let now = g.M.Media.disk c.save_accepted-saved.new.media in
    let result = c.save_accepted-saved.result in
    let made = c.save_accepted-saved.ensures.saves opening events placed told stands in
    saves_so opening events c.args.label.now placed _ c.eq-self-inside.result before now result (not_failed _ _ result _ _ c.eq-self-inside.ensures)
    (ap (λ (s : VaultState). s.failed) c.self-2.view_is ∙ c.save_accepted-saved.ensures.failed ∙ stands.working)
    (subst (λ (s : VaultState). Saves opening events c.args.label.now placed s before now result) (sym c.self-2.view_is) made)

pub returns-clause-damage : goal.returns-clause-damage
returns-clause-damage g c = record {
  undamaged = search rules;
  stands = λ opening events placed m offset told is stands.
      stands_so opening events placed _ c.eq-self-inside.result (g.M.Media.disk c.save_accepted-saved.new.media) (no_fault_of_damage _ _ c.save_accepted-saved.result m offset c.eq-self-inside.result is refl c.eq-self-inside.ensures)
      (subst (λ (s : VaultState). Stands opening events s placed (g.M.Media.disk c.save_accepted-saved.new.media)) (sym c.self-2.view_is)
      (c.save_accepted-saved.ensures.stands opening events placed m offset told is stands));
  damaged = search rules;
  named = search rules;
}

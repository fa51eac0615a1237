use Rattle.std.proofs.Common.{◌≡◌, inl, ℤ, w64, Ok, Err, refl, sym, ap, ◌∙◌, subst, arith}
use Rattle.std.proofs.lemmas.Result.{IfOk-from_err}
use Rattle.std.proofs.lemmas.Int.{ints, to_z-of_z}
use mir.Val.{SFits}
use Rattle.vdr_vault.specs.Vaults.{VaultState}
use Rattle.vdr_vault.specs.Saves.{refusal_of}
use Rattle.vdr_vault.specs.declared.refused.SaveRefused.{SaveRefused}
use Rattle.vdr_vault.specs.declared.refused.SaveRefused.TheVariants.{Damaged}
use Rattle.vdr_vault.proofs.Playing.{stands_still}
use Rattle.vdr_vault.proofs.Saved.{HasPlaces, IsNone, after_reading, by_newest, first_read, incident_at, never_refused, saves, saves_nothing}
use Rattle.vdr_vault.proofs.Refusals.{cause_of_table, damage_is, handed_on, of_no_damage}
use Rattle.vdr_vault.proofs.vault.Vault.save_accepted.Goals as goal

pub returns-in_err-a-clause-saves : goal.returns-in_err-a-clause-saves
returns-in_err-a-clause-saves g c opening events placed told stands =
    saves_nothing opening events c.args.self.now placed (g.M.Media.disk c.args.media.now) c.args.label.now c.args.tick c.args.utc
    (record { stands = stands; legal = c.law_of_limits.ensures; accepted = c.requires.accepted; stamped = c.requires.newest }) _ (g.M.Media.disk c.first_of_incident.new.media) c.from_residual.result c.from_residual.ensures.0
    c.first_of_incident.ensures.read.unchanged

pub returns-in_err-a-clause-undamaged : goal.returns-in_err-a-clause-undamaged
returns-in_err-a-clause-undamaged g c opening events placed m offset told stands is =
    by_newest opening events c.args.self.now placed (g.M.Media.disk c.args.media.now) c.args.label.now c.args.tick c.args.utc
    (record { stands = stands; legal = c.law_of_limits.ensures; accepted = c.requires.accepted; stamped = c.requires.newest })
    (λ ps. c.first_of_incident.result ≡ Err (Damaged m offset) → ⊥) told (λ ps newest told reads ends at. c.first_of_incident.ensures.undamaged ps newest m offset told reads ends at)
    (c.in_err-a.was ∙ ap (λ (e : SaveRefused). Err e) (handed_on (λ e. e) _ c.from_residual.result (Damaged m offset) c.from_residual.ensures.1 is))

pub returns-in_default-clause-saves : goal.returns-in_default-clause-saves
returns-in_default-clause-saves g c opening events placed told stands =
    saves_nothing opening events c.args.self.now placed (g.M.Media.disk c.args.media.now) c.args.label.now c.args.tick c.args.utc
    (record { stands = stands; legal = c.law_of_limits.ensures; accepted = c.requires.accepted; stamped = c.requires.newest }) _ (g.M.Media.disk c.first_of_incident.new.media) (Err (Damaged 1 0)) refl
    c.first_of_incident.ensures.read.unchanged

pub returns-in_default-clause-undamaged : goal.returns-in_default-clause-undamaged
returns-in_default-clause-undamaged g c opening events placed m offset told stands is =
    let fits : SFits w64 c.args.utc = omega (arith, ints, c.ranges.utc.sfits) in
    let known = first_read opening events c.args.self.now c.first_of_incident.new.self _ placed (g.M.Media.disk c.args.media.now) (g.M.Media.disk c.first_of_incident.new.media) c.args.label.now c.args.tick c.args.utc c.in_ok-a.a
    c.self.view_is c.first_of_incident.ensures.vault c.first_of_incident.ensures.read (record { stands = stands; legal = c.law_of_limits.ensures; accepted = c.requires.accepted; stamped = c.requires.newest }) told c.in_ok-a.ensures.found in
    never_refused opening events _ placed (g.M.Media.disk c.first_of_incident.new.media) c.args.label.now c.args.tick c.args.utc known.may c.in_ok-a.a known.first told
    (subst (λ (p : VaultState × ℤ). IsNone p.0 c.args.label.now c.in_ok-a.a c.args.tick p.1) (λ i. (sym c.self.view_is i, to_z-of_z w64 c.args.utc fits i)) c.in_default.ensures.none)

pub returns-in_err-save-clause-cause : goal.returns-in_err-save-clause-cause
returns-in_err-save-clause-cause g c =
    cause_of_table (g.M.Media.faults c.args.media.now) (g.M.Media.faults c.first_of_incident.new.media) (g.M.Media.faults c.save.new.media) c.in_err-save.field-0.0 c.save.result
    c.from_residual-in_err-save.result c.first_of_incident.ensures.cause.later c.save.ensures.writes.later c.save.ensures.writes.rose c.in_err-save.was c.from_residual-in_err-save.ensures.1

pub returns-in_err-save-clause-saves : goal.returns-in_err-save-clause-saves
returns-in_err-save-clause-saves g c opening events placed told stands =
    let fits : SFits w64 c.args.utc = omega (arith, ints, c.ranges.utc.sfits) in
    let known = first_read opening events c.args.self.now c.first_of_incident.new.self _ placed (g.M.Media.disk c.args.media.now) (g.M.Media.disk c.first_of_incident.new.media) c.args.label.now c.args.tick c.args.utc c.in_ok-a.a
    c.self.view_is c.first_of_incident.ensures.vault c.first_of_incident.ensures.read (record { stands = stands; legal = c.law_of_limits.ensures; accepted = c.requires.accepted; stamped = c.requires.newest }) told c.in_ok-a.ensures.found in
    let out = c.from_residual-in_err-save.result in
    let none = c.from_residual-in_err-save.ensures.0 in
    after_reading opening events c.args.label.now placed _ (g.M.Media.disk c.args.media.now) (g.M.Media.disk c.first_of_incident.new.media) (g.M.Media.disk c.save.new.media) out c.first_of_incident.ensures.read.unchanged
    (saves opening events _ placed (g.M.Media.disk c.first_of_incident.new.media) c.args.label.now c.args.tick c.args.utc known.may c.in_ok-a.a known.first c.in-Some.save
    (c.in-Some.ensures.made ∙ ap (λ (p : VaultState × ℤ). incident_at p.0 c.args.label.now c.in_ok-a.a c.args.tick p.1) (λ i. (sym c.self.view_is i, to_z-of_z w64 c.args.utc fits i)))
    (subst (λ (s : VaultState). HasPlaces s c.in_ok-a.a) (sym c.self.view_is) c.in-Some.ensures.there) (g.M.Media.disk c.save.new.media)
    out c.save.new.self c.save.ensures.moments (λ slots slot held free. IfOk-from_err out _ none) c.save.ensures.writes.others c.save.ensures.writes.sizes (IfOk-from_err out _ none) (IfOk-from_err out _ none))

pub returns-clause-saves : goal.returns-clause-saves
returns-clause-saves g c opening events placed told stands =
    let fits : SFits w64 c.args.utc = omega (arith, ints, c.ranges.utc.sfits) in
    let known = first_read opening events c.args.self.now c.first_of_incident.new.self _ placed (g.M.Media.disk c.args.media.now) (g.M.Media.disk c.first_of_incident.new.media) c.args.label.now c.args.tick c.args.utc c.in_ok-a.a
    c.self.view_is c.first_of_incident.ensures.vault c.first_of_incident.ensures.read (record { stands = stands; legal = c.law_of_limits.ensures; accepted = c.requires.accepted; stamped = c.requires.newest }) told c.in_ok-a.ensures.found in
    after_reading opening events c.args.label.now placed _ (g.M.Media.disk c.args.media.now) (g.M.Media.disk c.first_of_incident.new.media) (g.M.Media.disk c.save.new.media) (Ok c.in_ok-save.field-0) c.first_of_incident.ensures.read.unchanged
    (saves opening events _ placed (g.M.Media.disk c.first_of_incident.new.media) c.args.label.now c.args.tick c.args.utc known.may c.in_ok-a.a known.first c.in-Some.save
    (c.in-Some.ensures.made ∙ ap (λ (p : VaultState × ℤ). incident_at p.0 c.args.label.now c.in_ok-a.a c.args.tick p.1) (λ i. (sym c.self.view_is i, to_z-of_z w64 c.args.utc fits i)))
    (subst (λ (s : VaultState). HasPlaces s c.in_ok-a.a) (sym c.self.view_is) c.in-Some.ensures.there) (g.M.Media.disk c.save.new.media)
    (Ok c.in_ok-save.field-0) c.save.new.self c.save.ensures.moments c.in_ok-save.ensures.settled c.save.ensures.writes.others c.save.ensures.writes.sizes c.in_ok-save.ensures.saved.table c.in_ok-save.ensures.saved.id)

pub returns-in_err-a-clause-stands : goal.returns-in_err-a-clause-stands
returns-in_err-a-clause-stands g c opening events placed m offset told is stands =
    stands_still 1 c.args.self.now c.first_of_incident.new.self (g.M.Media.disk c.args.media.now) (g.M.Media.disk c.first_of_incident.new.media) c.first_of_incident.ensures.vault c.first_of_incident.ensures.read
    opening events placed stands

pub returns-in_default-clause-stands : goal.returns-in_default-clause-stands
returns-in_default-clause-stands g c opening events placed m offset told is stands =
    stands_still 1 c.args.self.now c.first_of_incident.new.self (g.M.Media.disk c.args.media.now) (g.M.Media.disk c.first_of_incident.new.media) c.first_of_incident.ensures.vault c.first_of_incident.ensures.read
    opening events placed stands

pub returns-in_err-save-clause-stands : goal.returns-in_err-save-clause-stands
returns-in_err-save-clause-stands g c opening events placed m offset told is stands =
    absurd (of_no_damage m offset c.in_err-save.field-0.0 (handed_on refusal_of _ c.from_residual-in_err-save.result (Damaged m offset) c.from_residual-in_err-save.ensures.1 is))

pub returns-in_err-a-clause-damaged : goal.returns-in_err-a-clause-damaged
returns-in_err-a-clause-damaged g c m offset is =
    let damage = c.in_err-a.was ∙ ap (λ (e : SaveRefused). Err e) (handed_on (λ e. e) _ c.from_residual.result (Damaged m offset) c.from_residual.ensures.1 is) in
    (c.first_of_incident.ensures.read.unchanged, (c.first_of_incident.ensures.damaged m offset damage).0)

pub returns-in_err-a-clause-named : goal.returns-in_err-a-clause-named
returns-in_err-a-clause-named g c m offset is =
    let damage = c.in_err-a.was ∙ ap (λ (e : SaveRefused). Err e) (handed_on (λ e. e) _ c.from_residual.result (Damaged m offset) c.from_residual.ensures.1 is) in
    (c.first_of_incident.ensures.damaged m offset damage).1

pub returns-in_default-clause-named : goal.returns-in_default-clause-named
returns-in_default-clause-named g c m offset is told judged = inl (damage_is 1 0 m offset is).1

pub returns-in_err-save-clause-named : goal.returns-in_err-save-clause-named
returns-in_err-save-clause-named g c m offset is =
    absurd (of_no_damage m offset c.in_err-save.field-0.0 (handed_on refusal_of _ c.from_residual-in_err-save.result (Damaged m offset) c.from_residual-in_err-save.ensures.1 is))

use Rattle.std.proofs.Common.{◌⊎◌, ◌<◌, ◌≤◌, ℕ, List, length, inl, inr, sym, ap, ◌∙◌, subst, arith}
use Rattle.vdr_ring.specs.Rings.{RingState}
use Rattle.vdr_opening.specs.Answers.{AreJudgedOn, AreRingsOf, ring_at}
use Rattle.vdr_vault.specs.Openings.{Reconciles}
use Rattle.vdr_vault.specs.Vaults.{VaultState}
use Rattle.vdr_vault.specs.contracts.vault.Vault.{the_view}
use Rattle.vdr_vault.proofs.CommitAll.{cause_on}
use Rattle.vdr_vault.proofs.Members.{same_rings}
use Rattle.vdr_vault.proofs.ReconcileDone.{none_of_length, reconciled_append, reconciled_level, some_of_length, within_append, within_level}
use Rattle.vdr_vault.proofs.vault.Vault.reconcile.Goals as goal

before_lacking : (k lacking count : ℕ) → 0 < lacking → (k < 1) ⊎ (count ≤ k) → (k < lacking) ⊎ (count ≤ k)
before_lacking k lacking count some (inl first) = inl (omega (arith, some, first))
before_lacking k lacking count some (inr beyond) = inr beyond

pub returns-then-is_empty-clause-reconciled : goal.returns-then-is_empty-clause-reconciled
returns-then-is_empty-clause-reconciled g c x told opened regular behind =
    reconciled_level x c.args.self.now c.args.missing.now _ (g.M.Media.disk c.args.media.now) told c.requires.works c.requires.rings opened regular behind
    (none_of_length c.args.missing.now (sym c.is_empty.ensures ∙ c.if-is_empty.true))

pub returns-then-is_empty-clause-within : goal.returns-then-is_empty-clause-within
returns-then-is_empty-clause-within g c x told opened = within_level x c.args.self.now c.args.missing.now _ (g.M.Media.disk c.args.media.now) told c.requires.works c.requires.rings opened

pub returns-clause-reconciled : goal.returns-clause-reconciled
returns-clause-reconciled g c = rw (sym c.self.view_is) (λ x told opened sound behind.
    let some = some_of_length c.args.missing.now (sym c.is_empty.ensures ∙ c.if-is_empty.false) in
    let are = rw (sym c.self.view_is) at c.requires.rings in
    let call = rw c.deref_mut.ensures.value at c.append_from.ensures in
    let after = call.keeps.rings _ are in
    let pins = rw (sym c.self.view_is) at c.pins-pins.ensures in
    let fits = rw (sym c.self.view_is) at c.requires.fits in
    let inside = rw (sym c.self.view_is) at c.requires.behind in
    subst (λ (rs : List RingState). Reconciles x (record (the_view c.self.inside) { rings = rs }) (g.M.Media.disk c.args.media.now) (g.M.Media.disk c.append_from.new.media) c.append_from.result)
    (sym (same_rings c.self.inside.rings c.append_from.new.rings call.keeps.size))
    (reconciled_append x (the_view c.self.inside) c.args.missing.now _ (g.M.Media.disk c.args.media.now) told (rw (sym c.self.view_is) at c.requires.works) are opened some (inside some) pins.legal (fits some) c.pins-pins.result pins.pins
    c.append_from.new.rings (g.M.Media.disk c.append_from.new.media) c.append_from.result call.passed sound behind call.keeps.size call.keeps.untouched after call.keeps.fronts call.keeps.others))

pub returns-clause-within : goal.returns-clause-within
returns-clause-within g c = rw (sym c.self.view_is) (λ x told opened.
    let some = some_of_length c.args.missing.now (sym c.is_empty.ensures ∙ c.if-is_empty.false) in
    let are = rw (sym c.self.view_is) at c.requires.rings in
    let call = rw c.deref_mut.ensures.value at c.append_from.ensures in
    let pins = rw (sym c.self.view_is) at c.pins-pins.ensures in
    let fits = rw (sym c.self.view_is) at c.requires.fits in
    let inside = rw (sym c.self.view_is) at c.requires.behind in
    within_append x (the_view c.self.inside) c.args.missing.now _ (g.M.Media.disk c.args.media.now) told (rw (sym c.self.view_is) at c.requires.works) are opened some (inside some) pins.legal (fits some) c.pins-pins.result pins.pins
    c.append_from.new.rings (g.M.Media.disk c.append_from.new.media) c.append_from.result call.passed c.law_of_stages.ensures.batches)

pub returns-clause-rings : goal.returns-clause-rings
returns-clause-rings g c =
    let are = rw (sym c.self.view_is) at c.requires.rings in
    let call = rw c.deref_mut.ensures.value at c.append_from.ensures in
    let after = call.keeps.rings _ are in
    subst (AreRingsOf c.self.inside.config (g.M.Media.disk c.append_from.new.media).sizes) (sym (same_rings c.self.inside.rings c.append_from.new.rings call.keeps.size)) after

pub returns-clause-capsule : goal.returns-clause-capsule
returns-clause-capsule g c = rw (sym c.self.view_is) (
    let some = some_of_length c.args.missing.now (sym c.is_empty.ensures ∙ c.if-is_empty.false) in
    let call = rw c.deref_mut.ensures.value at c.append_from.ensures in
    let same = same_rings c.self.inside.rings c.append_from.new.rings call.keeps.size in
    ap (λ (rs : List RingState). ring_at rs 0) same ∙ call.keeps.untouched 0 (c.requires.behind some).0)

pub returns-clause-judged : goal.returns-clause-judged
returns-clause-judged g c told judged =
    let call = c.append_from.ensures in
    let lent = c.deref_mut.ensures.value in
    let here = subst (λ (v : VaultState). AreJudgedOn v.rings (g.M.Media.disk c.args.media.now)) (sym c.self.view_is) judged in
    subst (λ (rs : List RingState). AreJudgedOn rs (g.M.Media.disk c.append_from.new.media)) (sym (same_rings c.self.inside.rings c.append_from.new.rings (call.keeps.size ∙ ap length lent)))
    (call.judged (subst (λ (rs : List RingState). AreJudgedOn rs (g.M.Media.disk c.args.media.now)) (sym lent) here))

pub returns-clause-others : goal.returns-clause-others
returns-clause-others g c = rw (sym c.self.view_is) (λ told k other.
    let some = some_of_length c.args.missing.now (sym c.is_empty.ensures ∙ c.if-is_empty.false) in
    let call = rw c.deref_mut.ensures.value at c.append_from.ensures in
    call.keeps.others told k (before_lacking k _ _ (c.requires.behind some).0 other))

pub returns-clause-cause : goal.returns-clause-cause
returns-clause-cause g c = rw (sym c.self.view_is) (
    let call = rw c.deref_mut.ensures.value at c.append_from.ensures in
    cause_on _ _ _ _ _ call.keeps.later call.cause)

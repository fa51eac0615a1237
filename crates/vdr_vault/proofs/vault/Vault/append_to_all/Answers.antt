use Rattle.std.proofs.Common.{◌≡◌, ◌+◌, ◌≤◌, List, length, ap, refl, rules, sym, ◌∙◌, subst}
use Rattle.std.proofs.lemmas.Result.{IfOk-from_err}
use Rattle.vdr_terms.specs.Records.{last}
use Rattle.vdr_terms.specs.Sizes.{batch_size}
use Rattle.vdr_outside.proofs.Counts.{none_falls_join, on_err}
use Rattle.vdr_ring.specs.Rings.{RingState}
use Rattle.vdr_opening.specs.Answers.{AreJudgedOn, AreRingsOf, further_on}
use Rattle.vdr_vault.specs.Calls.{Commits}
use Rattle.vdr_vault.specs.Vaults.{working_from}
use Rattle.vdr_vault.specs.contracts.vault.Vault.{the_view}
use Rattle.vdr_vault.proofs.Alike.{brought_extends, committed_behind, rings_read}
use Rattle.vdr_vault.proofs.Brought.{cause_behind, lent_twice}
use Rattle.vdr_vault.proofs.Members.{count_of, inside, same_rings}
use Rattle.vdr_vault.proofs.CommitAll.{committed, vault_cause}
use Rattle.vdr_vault.proofs.vault.Vault.append_to_all.Goals as goal

pub returns-in_err-bring_up_all-clause-commits : goal.returns-in_err-bring_up_all-clause-commits
returns-in_err-bring_up_all-clause-commits g c = rw (sym c.self.view_is) (λ opening events e taken placed told is stands may.
    let legal = (rw (sym c.self.view_is) at c.pins-pins.ensures).legal in
    let call = rw c.deref_mut.ensures.value at c.bring_up_all.ensures in
    record {
      moments = brought_extends opening events _ placed _ stands told legal.slots_high (rw (sym c.self.view_is) at c.requires.rings).two _ (call.brought placed told (λ k lt. rings_read opening events _ placed _ stands k (inside _ k lt))).moments e;
      done = IfOk-from_err c.from_residual.result _ c.from_residual.ensures.0;
    })

pub returns-in_err-bring_up_all-clause-keeps : goal.returns-in_err-bring_up_all-clause-keeps
returns-in_err-bring_up_all-clause-keeps g c =
    let are = rw (sym c.self.view_is) at c.requires.rings in
    let after = (rw c.deref_mut.ensures.value at c.bring_up_all.ensures.keeps).rings _ are in
    let same = same_rings c.self.inside.rings c.bring_up_all.new.rings (rw c.deref_mut.ensures.value at c.bring_up_all.ensures.keeps).size in
    let call = rw c.deref_mut.ensures.value at c.bring_up_all.ensures in
    rw (sym c.self.view_is) (record {
      config = refl;
      table = refl;
      count = ap (λ (l : List RingState). length l) same ∙ (rw c.deref_mut.ensures.value at c.bring_up_all.ensures.keeps).size;
      rings = subst (AreRingsOf c.self.inside.config (g.M.Media.disk c.bring_up_all.new.media).sizes) (sym same) after;
      judged = λ judged. subst (λ (rs : List RingState). AreJudgedOn rs (g.M.Media.disk c.bring_up_all.new.media)) (sym same) (c.bring_up_all.ensures.judged (subst (λ (rs : List RingState). AreJudgedOn rs (g.M.Media.disk c.args.media.now)) (sym c.deref_mut.ensures.value) judged));
    })

pub returns-in_err-bring_up_all-clause-cause : goal.returns-in_err-bring_up_all-clause-cause
returns-in_err-bring_up_all-clause-cause g c =
    let are = rw (sym c.self.view_is) at c.requires.rings in
    let two = are.two in
    let lent : length c.deref_mut.result.now ≡ length c.self.inside.rings.items = ap (λ (l : List RingState). length l) c.deref_mut.ensures.value in
    rw (sym c.self.view_is) (vault_cause (further_on c.self.inside.rings.items) (length c.deref_mut.result.now) _ _ _ (count_of _ c.self.inside.rings.items lent two) c.bring_up_all.ensures.keeps.later (on_err _ c.in_err-bring_up_all.ensures.cause))

pub append_from-requires-clause-rings : goal.append_from-requires-clause-rings
append_from-requires-clause-rings g c =
    let are = rw (sym c.self.view_is) at c.requires.rings in
    let mid = (rw c.deref_mut.ensures.value at c.bring_up_all.ensures.keeps).rings _ are in
    let fits : 64 + batch_size c.args.records.now + 1 ≤ c.self.inside.config.segment = search rules in
    (c.self.inside.config, subst (AreRingsOf c.self.inside.config (g.M.Media.disk c.bring_up_all.new.media).sizes) (sym (c.deref_mut-2.ensures.value ∙ same_rings c.self.inside.rings c.bring_up_all.new.rings (rw c.deref_mut.ensures.value at c.bring_up_all.ensures.keeps).size)) mid, fits)

pub returns-clause-commits : goal.returns-clause-commits
returns-clause-commits g c = rw (sym c.self.view_is) (λ opening events e taken placed told is stands may.
    let are = rw (sym c.self.view_is) at c.requires.rings in
    let up = rw c.deref_mut.ensures.value at c.in_ok-bring_up_all.ensures in
    let mid = up.keeps.rings _ are in
    let call = rw (c.deref_mut-2.ensures.value ∙ same_rings c.self.inside.rings c.bring_up_all.new.rings up.keeps.size) at c.append_from.ensures in
    let pins = rw (sym c.self.view_is) at c.pins-pins.ensures in
    let done = up.brought placed told (λ k lt. rings_read opening events _ placed _ stands k (inside _ k lt)) in
    subst (λ (rs : List RingState). Commits opening events e c.args.records.now placed (working_from (last c.args.records.now) (record (the_view c.self.inside) { rings = rs })) (g.M.Media.disk c.args.media.now)
    (g.M.Media.disk c.append_from.new.media) c.append_from.result) (sym (lent_twice g.M.Media c.self.inside.rings up.keeps call.keeps))
    (committed_behind opening events _ placed _ stands told pins.legal.slots_high are.two _ done.moments c.bring_up_all.new.rings mid up.keeps.size (up.keeps.fronts told) done.done e c.args.records.now _ _ c.append_from.result (call.keeps.size ∙ up.keeps.size) may (λ now stands may.
    committed opening events e _ taken is _ now _ stands may pins.legal told mid.two c.pins-pins.result pins.pins c.append_from.new.rings (g.M.Media.disk c.append_from.new.media) c.append_from.result call.passed (call.keeps.rings _ mid) call.keeps.size call.keeps.fronts)))

pub returns-clause-keeps : goal.returns-clause-keeps
returns-clause-keeps g c =
    let are = rw (sym c.self.view_is) at c.requires.rings in
    let up = rw c.deref_mut.ensures.value at c.bring_up_all.ensures in
    let mid = up.keeps.rings _ are in
    let call = rw (c.deref_mut-2.ensures.value ∙ same_rings c.self.inside.rings c.bring_up_all.new.rings up.keeps.size) at c.append_from.ensures in
    let lent = sym (lent_twice g.M.Media c.self.inside.rings up.keeps call.keeps) in
    rw (sym c.self.view_is) (record {
      config = refl;
      table = refl;
      count = ap (λ (l : List RingState). length l) (sym lent) ∙ call.keeps.size ∙ up.keeps.size;
      rings = subst (AreRingsOf c.self.inside.config (g.M.Media.disk c.append_from.new.media).sizes) lent (call.keeps.rings _ mid);
      judged = λ judged. subst (λ (rs : List RingState). AreJudgedOn rs (g.M.Media.disk c.append_from.new.media)) lent (c.append_from.ensures.judged (subst (λ (rs : List RingState). AreJudgedOn rs (g.M.Media.disk c.bring_up_all.new.media)) (sym (c.deref_mut-2.ensures.value ∙ same_rings c.self.inside.rings c.bring_up_all.new.rings up.keeps.size))
          (c.bring_up_all.ensures.judged (subst (λ (rs : List RingState). AreJudgedOn rs (g.M.Media.disk c.args.media.now)) (sym c.deref_mut.ensures.value) judged))));
    })

pub returns-clause-cause : goal.returns-clause-cause
returns-clause-cause g c =
    let are = rw (sym c.self.view_is) at c.requires.rings in
    let two = are.two in
    let up = rw c.deref_mut.ensures.value at c.bring_up_all.ensures in
    let size = up.keeps.size in
    let lent : length c.deref_mut-2.result.now ≡ length c.bring_up_all.new.rings = ap (λ (l : List RingState). length l) (c.deref_mut-2.ensures.value ∙ same_rings c.self.inside.rings c.bring_up_all.new.rings size) in
    let first = c.bring_up_all.ensures.keeps.later in
    rw (sym c.self.view_is) (vault_cause (further_on c.self.inside.rings.items) (length c.deref_mut-2.result.now) _ _ _ (count_of _ c.self.inside.rings.items (lent ∙ size) two) (none_falls_join _ _ _ first c.append_from.ensures.keeps.later) (cause_behind _ _ _ _ _ first c.append_from.ensures.cause))

use Rattle.std.proofs.Common.{false, length, refl, sym, subst, ap, ◌∙◌, w64, arith}
use Rattle.std.proofs.lemmas.Int.{ints, to_z-of_z}
use Rattle.std.proofs.lemmas.Result.{IfOk-from_err}
use mir.Val.{SFits}
use Rattle.vdr_terms.specs.Records.{Record}
use Rattle.vdr_vault.specs.Vaults.{AreJudged, AreRings, VaultState}
use Rattle.vdr_vault.proofs.CommitAll.{gone_on, told_last, told_next}
use Rattle.vdr_vault.proofs.Refusals.{stands_so}
use Rattle.vdr_vault.proofs.vault.Vault.commit.Goals as goal

pub returns-in_err-append_to_all-clause-commits : goal.returns-in_err-append_to_all-clause-commits
returns-in_err-append_to_all-clause-commits g c = rw (sym c.self.view_is) (λ opening events e taken placed told is stands may.
    let made = c.append_to_all.ensures.commits opening events e taken placed told is (stands_so opening events placed _ false (g.M.Media.disk c.args.media.now) refl stands) may in
    record { moments = made.moments; done = IfOk-from_err c.from_residual.result _ c.from_residual.ensures.0 })

pub returns-clause-commits : goal.returns-clause-commits
returns-clause-commits g c = rw (sym c.self.view_is) (λ opening events e taken placed told is stands may.
    let stamp = c.newest.invariant.legal.utc in
    let fits : SFits w64 c.newest.inside.utc = omega (arith, ints, stamp.whole, stamp.in_time) in
    let made = c.append_to_all.ensures.commits opening events e taken placed told is (stands_so opening events placed _ false (g.M.Media.disk c.args.media.now) refl stands) may in
    let at : VaultState = record {
      config = c.self-2.inside.config;
      rings = c.self-2.inside.rings.items;
      table = c.self-2.inside.table;
      next_place = c.self-2.inside.next_place;
      last = c.self-2.inside.last;
      failed = c.self-2.inside.failed;
    } in
    gone_on opening events e c.args.records.now placed at _ _ (g.M.Media.disk c.args.media.now) (g.M.Media.disk c.append_to_all.new.media) c.append_to_all.result _ c.in_ok-append_to_all.was
    (told_next c.args.records.now c.index-records-records.result c.newest.inside.place c.requires.some c.index-records-records.is (ap (λ (r : Record). r.place) c.newest.view_is))
    (told_last c.args.records.now c.index-records-records.result c.newest.inside.tick _ c.requires.some c.index-records-records.is
    (ap (λ (r : Record). r.tick) c.newest.view_is) (to_z-of_z w64 c.newest.inside.utc fits ∙ ap (λ (r : Record). r.utc) c.newest.view_is))
    (rw (sym c.self-2.view_is) at made))

pub returns-clause-goes_on : goal.returns-clause-goes_on
returns-clause-goes_on g c =
    let stamp = c.newest.invariant.legal.utc in
    let fits : SFits w64 c.newest.inside.utc = omega (arith, ints, stamp.whole, stamp.in_time) in
    record {
      next_place = told_next c.args.records.now c.index-records-records.result c.newest.inside.place c.requires.some c.index-records-records.is (ap (λ (r : Record). r.place) c.newest.view_is);
      last = told_last c.args.records.now c.index-records-records.result c.newest.inside.tick _ c.requires.some c.index-records-records.is
          (ap (λ (r : Record). r.tick) c.newest.view_is) (to_z-of_z w64 c.newest.inside.utc fits ∙ ap (λ (r : Record). r.utc) c.newest.view_is);
      kept = tt;
    }

pub returns-in_err-append_to_all-clause-keeps : goal.returns-in_err-append_to_all-clause-keeps
returns-in_err-append_to_all-clause-keeps g c =
    let kept = c.append_to_all.ensures.keeps in
    rw (sym c.self.view_is) (record { config = kept.config; table = kept.table; count = kept.count; rings = kept.rings; judged = kept.judged })

pub returns-clause-keeps : goal.returns-clause-keeps
returns-clause-keeps g c =
    let kept = c.append_to_all.ensures.keeps in
    rw (sym c.self.view_is) (record {
      config = ap (λ (s : VaultState). s.config) c.self-2.view_is ∙ kept.config;
      table = ap (λ (s : VaultState). s.table) c.self-2.view_is ∙ kept.table;
      count = ap (λ (s : VaultState). length s.rings) c.self-2.view_is ∙ kept.count;
      rings = subst (λ (s : VaultState). AreRings s (g.M.Media.disk c.append_to_all.new.media).sizes) (sym c.self-2.view_is) kept.rings;
      judged = λ judged. subst (λ (s : VaultState). AreJudged s (g.M.Media.disk c.append_to_all.new.media)) (sym c.self-2.view_is) (kept.judged judged);
    })

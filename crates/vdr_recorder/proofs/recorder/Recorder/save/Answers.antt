use Rattle.std.proofs.Common.{sym, ◌∙◌}
use Rattle.vdr_recorder.proofs.Looking.{look_done}
use Rattle.vdr_recorder.proofs.QuietActs.{look_untouched, not_failed, on_err, save_done, where_refused}
use Rattle.vdr_recorder.proofs.recorder.Recorder.save.Goals as goal

pub returns-clause-event : goal.returns-clause-event
returns-clause-event g c = record {
  saved = rw (sym c.self.view_is) (λ opening events t0 told works free sound h.
      let v = (h.works works).standing in
      let s = c.save.ensures.saves opening events v.placed told v.stands free in (
        s.id,
        s.a,
        s.b,
        s.told,
        save_done opening events t0 _ _ h works _ _ c.save.ensures.keeps.config c.save.ensures.keeps.next_place c.save.ensures.keeps.last c.save.ensures.keeps.count _ _ s free c.save.ensures.refuses.reason
            sound c.save.ensures.failing.fails c.save.ensures.failing.works c.save.ensures.saved.kept,
      ));
  looked = rw (sym c.self.view_is) (λ opening events t0 refused why h.
      look_untouched opening events t0 _ g.M.Media.disk c.args.media.now c.save.new.media h c.save.new.self
      (where_refused c.self.inside.vault.failed _ _
      (λ fails. let k = c.save.ensures.refuses.failed fails in (k.1, k.2))
      (λ goes reason. let k = c.save.ensures.refuses.refused refused goes reason in (k.1, k.2)) why));
  met_damage = rw (sym c.self.view_is) (λ opening events t0 m offset told damage h.
      let d = c.save.ensures.damage.damaged m offset damage in
      look_done opening events t0 _ (g.M.Media.disk c.args.media.now) (g.M.Media.disk c.save.new.media) h c.save.new.self d.0
      (d.1 ∙ sym (not_failed c.save.result _ m offset damage (λ fails. (c.save.ensures.refuses.failed fails).0))) c.save.ensures.keeps.config c.save.ensures.keeps.next_place c.save.ensures.keeps.last
      (on_err c.save.result _ _ damage c.save.ensures.saved.kept) c.save.ensures.keeps.count
      (λ placed stands. c.save.ensures.damage.stands opening events placed m offset told damage stands));
}

pub returns-clause-damage : goal.returns-clause-damage
returns-clause-damage g c = rw (sym c.self.view_is) c.save.ensures.damage

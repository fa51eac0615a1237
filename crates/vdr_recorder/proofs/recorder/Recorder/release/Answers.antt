use Rattle.std.proofs.Common.{sym}
use Rattle.vdr_recorder.proofs.QuietActs.{look_untouched, release_done, where_refused}
use Rattle.vdr_recorder.proofs.recorder.Recorder.release.Goals as goal

pub returns-clause-event : goal.returns-clause-event
returns-clause-event g c = record {
  released = rw (sym c.self.view_is) (λ opening events t0 saved told works has h.
      let v = (h.works works).standing in
      release_done opening events t0 _ _ h works _ _ c.release.ensures.keeps.config c.release.ensures.keeps.next_place c.release.ensures.keeps.last c.release.ensures.keeps.count c.args.id saved _ has
      (λ e is. c.release.ensures.releases opening events v.placed saved e told v.stands has is) c.release.ensures.refuses.reason c.release.ensures.failing.fails c.release.ensures.failing.works c.release.ensures.released.kept);
  looked = rw (sym c.self.view_is) (λ opening events t0 why h.
      look_untouched opening events t0 _ g.M.Media.disk c.args.media.now c.release.new.media h c.release.new.self
      (where_refused c.self.inside.vault.failed _ _
      (λ fails. let k = c.release.ensures.refuses.failed fails in (k.1, k.2))
      (λ goes reason. let k = c.release.ensures.refuses.refused goes reason in (k.1, k.2)) why));
}

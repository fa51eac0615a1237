use Rattle.std.proofs.Common.{rules, sym}
use Rattle.vdr_vault.proofs.SlotWritten.{released}
use Rattle.vdr_vault.proofs.Refusals.{does_so, has_fault, not_failed}
use Rattle.vdr_vault.proofs.vault.Vault.release.Goals as goal

pub returns-clause-releases : goal.returns-clause-releases
returns-clause-releases g c = rw (sym c.self.view_is) (λ opening events placed saved e told stands lives is.
    let legal = rw (sym c.self.view_is) at c.law_of_limits.ensures in
    does_so opening events e placed _ c.eq-self-inside.result (g.M.Media.disk c.args.media.now) (g.M.Media.disk c.release-released.new.media) c.release-released.result
    (not_failed _ _ c.release-released.result _ _ c.eq-self-inside.ensures) c.if-self.false
    (released opening events _ placed (g.M.Media.disk c.args.media.now) stands legal e c.args.id saved lives is (g.M.Media.disk c.release-released.new.media) c.release-released.result c.release-released.new.self
    c.release-released.ensures.moments c.release-released.ensures.settled c.release-released.ensures.writes.others c.release-released.ensures.writes.sizes c.release-released.ensures.table))

pub returns-clause-writes : goal.returns-clause-writes
returns-clause-writes g c = record {
  others = search rules;
  sizes = search rules;
  counts = search rules;
  cause = has_fault _ (g.M.Media.faults c.args.media.now) (g.M.Media.faults c.release-released.new.media) _ c.release-released.ensures.writes.later (λ f. c.release-released.ensures.writes.rose f);
}

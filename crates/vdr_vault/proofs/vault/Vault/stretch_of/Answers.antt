use Rattle.std.proofs.Common.{sym, ap, ◌∙◌, arith}
use Rattle.std.proofs.lemmas.Bool.{false≢true}
use Rattle.std.proofs.lemmas.Result.{IfOk-weaker}
use Rattle.vdr_durability.specs.Playback.{medium_of}
use Rattle.vdr_entry.specs.Queries.{asked}
use Rattle.vdr_vault.specs.Vaults.{VaultState}
use Rattle.vdr_vault.proofs.Coming.{holds_on}
use Rattle.vdr_vault.proofs.Playing.{judged_over, readable_still, rings_still, stands_still}
use Rattle.vdr_vault.proofs.Stepped.{worked}
use Rattle.vdr_vault.proofs.Stretched.{incident_whole, window_whole}
use Rattle.vdr_vault.proofs.vault.Vault.stretch_of.Goals as goal

pub returns-in-Incident-clause-begins : goal.returns-in-Incident-clause-begins
returns-in-Incident-clause-begins g c opening events placed told readable =
    incident_whole opening events c.args.self.now placed (g.M.Media.disk c.args.media.now) readable c.args.query.now c.in-Incident.id c.stretch_of_incident.result c.in-Incident.is
    (c.stretch_of_incident.ensures (placed 1) (readable.media 1 0 (omega arith)).reads.directory)

pub returns : goal.returns
returns g c =
    let query = asked c.args.query.now in
    let m = medium_of query.medium in
    let before = g.M.Media.disk c.args.media.now in
    let now = g.M.Media.disk c.stretch_of_window.new.media in
    let at = c.number_of.ensures.number in
    let vault = rw at at c.stretch_of_window.ensures.vault in
    let read = rw at at c.stretch_of_window.ensures.read in
    record {
      begins = λ opening events placed told readable.
          IfOk-weaker c.stretch_of_window.result _ _
          (λ s is. window_whole opening events c.args.self.now placed before readable c.args.query.now s c.in_default.not-Incident is)
          ((rw at at c.stretch_of_window.ensures.begins) (placed m) told (holds_on opening events c.args.self.now placed before readable c.args.query.now.medium).reads);
      undamaged = λ opening events placed k offset told readable is.
          (rw at at c.stretch_of_window.ensures.undamaged) (placed m) k offset told (holds_on opening events c.args.self.now placed before readable c.args.query.now.medium).reads is;
      damage = record {
        medium = λ k offset is. (rw at at c.stretch_of_window.ensures.damaged k offset is).0;
        damaged = λ k offset is told judged. (c.stretch_of_window.ensures.damaged k offset is).1 told judged;
      };
      keeps = record {
        vault = vault;
        rings = rings_still _ c.args.self.now c.stretch_of_window.new.self before now vault read c.requires.rings;
        stands = stands_still _ c.args.self.now c.stretch_of_window.new.self before now vault read;
        judged = judged_over _ c.args.self.now c.stretch_of_window.new.self before now vault read;
        readable = readable_still _ c.args.self.now c.stretch_of_window.new.self before now vault read;
        unchanged = read.unchanged;
      };
      reads = record {
        failed = λ had. absurd (false≢true (sym c.if-self.false ∙ ap (λ (s : VaultState). s.failed) c.self.view_is ∙ had));
        counts = rw at at c.stretch_of_window.ensures.counts;
        cause = worked _ _ _ _ (sym (ap (λ (s : VaultState). s.failed) c.self.view_is) ∙ c.if-self.false) (rw at at c.stretch_of_window.ensures.cause);
      };
    }

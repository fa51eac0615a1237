use Rattle.std.proofs.Common.{◌∙◌, ℕ, List, ap}
use Rattle.vdr_readout.specs.Evidences.{heading_asked}
use Rattle.vdr_readout.specs.Reads.{plain_play}
use Rattle.vdr_readout.proofs.evidencing.writer_for.Goals as goal

pub returns-clause-heading : goal.returns-clause-heading
returns-clause-heading g c t = (
  c.in_ok-text.text.items,
  c.in_ok-text.ensures.text t,
  c.in_ok-text.ensures.short,
  c.new.ensures.heading_is ∙ c.in-Ok.ensures ∙ ap (λ (words : List ℕ). heading_asked words c.args.recorder.now.vault.table (plain_play c.args.wanted)) c.deref.ensures.value,
)

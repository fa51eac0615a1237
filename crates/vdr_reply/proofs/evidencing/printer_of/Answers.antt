use Rattle.std.proofs.Common.{◌∙◌, ℕ, List, ap}
use Rattle.vdr_teller.specs.Evidence.{save_heading}
use Rattle.vdr_reply.proofs.evidencing.printer_of.Goals as goal

pub returns-clause-heading : goal.returns-clause-heading
returns-clause-heading g c t = (
  c.in_ok-text.text.items,
  c.in_ok-text.ensures.text t,
  c.in_ok-text.ensures.short,
  ap (λ (w : _). w.heading.items) c.new.ensures.visitor ∙ c.new-writer.ensures.heading_is ∙ c.in-Ok.ensures ∙ ap (λ (words : List ℕ). save_heading words c.args.recorder.now.vault.table c.args.id) c.deref.ensures.value,
)

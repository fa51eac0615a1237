use Rattle.std.proofs.Common.{◌≡◌, ◌∙◌, sym}
use Rattle.vdr_evidence.proofs.Parts.{left_begun, left_new}
use Rattle.vdr_evidence.proofs.writer.EvidenceWriter.heading_left.Goals as goal

pub returns-then-self : goal.returns-then-self
returns-then-self c heading seen written = sym (left_begun heading seen (sym written.begun_is ∙ c.if-self.true))

pub returns : goal.returns
returns c heading seen written = c.as_slice.ensures.value ∙ written.heading_is ∙ sym (left_new heading seen (sym written.begun_is ∙ c.if-self.false))

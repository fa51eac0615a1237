use Rattle.std.proofs.Common.{◌∙◌}
use Rattle.vdr_evidence.proofs.writer.EvidenceWriterVisitor.visit.Goals as goal

pub returns-in-Ok-clause-has : goal.returns-in-Ok-clause-has
returns-in-Ok-clause-has g c first seen written = (written.0, c.add.ensures first.heading.items seen c.args.item.now (c.as_slice-2.ensures.value ∙ c.part_of-part.ensures) written.1)

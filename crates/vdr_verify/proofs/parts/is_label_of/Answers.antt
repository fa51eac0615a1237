use Rattle.std.proofs.Common.{◌∙◌, sym}
use Rattle.vdr_verify.proofs.Heads.{label_legal, label_other}
use Rattle.vdr_verify.proofs.parts.is_label_of.Goals as goal

pub returns-else-incident-eq0-clause-legal : goal.returns-else-incident-eq0-clause-legal
returns-else-incident-eq0-clause-legal c = λ is. label_legal c.args.incident c.args.bytes.now c.ranges.incident.fits c.if-incident-eq0.false (sym c.is_label.ensures ∙ is)

pub returns-else-incident-eq0-clause-other : goal.returns-else-incident-eq0-clause-other
returns-else-incident-eq0-clause-other c = λ is. label_other c.args.incident c.args.bytes.now c.ranges.incident.fits c.if-incident-eq0.false (sym c.is_label.ensures ∙ is)

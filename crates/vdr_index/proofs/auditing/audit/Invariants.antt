use Rattle.std.proofs.Common.{◌-◌, length}
use Rattle.vdr_index.proofs.AuditLemmas.{Audited}
use Rattle.vdr_index.proofs.auditing.audit.Given as goal

abbrev pub invariant-loop-from : goal.invariant-loop-from
invariant-loop-from l = Audited l.segment l.first l.summary l.found

abbrev pub decreases-loop-from : goal.decreases-loop-from
decreases-loop-from l = length l.segment - l.found.end

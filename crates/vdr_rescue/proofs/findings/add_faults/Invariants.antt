use Rattle.std.proofs.Common.{◌≡◌, ◌++◌, drop}
use Rattle.vdr_rescue.specs.Findings.{faults}
use Rattle.vdr_rescue.proofs.findings.add_faults.Given as goal

abbrev pub invariant-loop-i : goal.invariant-loop-i
invariant-loop-i l = l.fn.offsets.items ++ faults l.area.segment l.heads l.told ≡ l.offsets.items ++ faults l.area.segment (drop l.i l.heads) (drop l.i l.told)

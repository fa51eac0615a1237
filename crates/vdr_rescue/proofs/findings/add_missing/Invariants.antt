use Rattle.std.proofs.Common.{◌≡◌, ◌++◌, map, take}
use Rattle.vdr_rescue.specs.Findings.{as_missing}
use Rattle.vdr_rescue.proofs.findings.add_missing.Given as goal

abbrev pub invariant-loop-gap : goal.invariant-loop-gap
invariant-loop-gap l = l.findings.items ≡ l.fn.findings.items ++ map as_missing (take l.gap-index l.gaps)

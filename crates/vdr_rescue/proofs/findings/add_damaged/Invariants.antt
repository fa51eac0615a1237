use Rattle.std.proofs.Common.{◌≡◌, ◌++◌, map, take}
use Rattle.vdr_rescue.specs.Findings.{as_damaged}
use Rattle.vdr_rescue.proofs.findings.add_damaged.Given as goal

abbrev pub invariant-loop-offset : goal.invariant-loop-offset
invariant-loop-offset l = l.findings.items ≡ l.fn.findings.items ++ map as_damaged (take l.offset-index l.offsets)

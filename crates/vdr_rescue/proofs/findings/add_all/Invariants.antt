use Rattle.std.proofs.Common.{◌≡◌, ◌++◌, take}
use Rattle.vdr_rescue.proofs.findings.add_all.Given as goal

abbrev pub invariant-loop-offset : goal.invariant-loop-offset
invariant-loop-offset l = l.offsets.items ≡ l.fn.offsets.items ++ take l.offset-index l.more

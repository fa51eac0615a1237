use Rattle.std.proofs.Common.{◌≡◌, ◌++◌, drop, false, None}
use Rattle.vdr_rescue.specs.Lacking.{missing}
use Rattle.vdr_rescue.proofs.lacking.missing_of.Given as goal

abbrev pub invariant-loop-i : goal.invariant-loop-i
invariant-loop-i l = missing l.owed l.pins None false l.heads l.told ≡ l.gaps.items ++ missing l.owed l.pins l.before l.beside (drop l.i l.heads) (drop l.i l.told)

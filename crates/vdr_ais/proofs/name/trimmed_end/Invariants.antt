use Rattle.std.proofs.Common.{◌≡◌, length, take}
use Rattle.vdr_ais.specs.Reports.{trimmed}
use Rattle.vdr_ais.proofs.name.trimmed_end.Given as goal

abbrev pub invariant-loop-i : goal.invariant-loop-i
invariant-loop-i l = l.end ≡ length (trimmed (take l.i l.letters))

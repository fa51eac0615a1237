use Rattle.std.proofs.Common.{◌≡◌, replicate, false}
use Rattle.vdr_export.proofs.listed.no_parts.Given as goal

abbrev pub invariant-loop : goal.invariant-loop
invariant-loop l = l.parts.items ≡ replicate l.counter false

use Rattle.std.proofs.Common.{◌≡◌, replicate, None}
use Rattle.vdr_export.proofs.parts.no_parts.Given as goal

abbrev pub invariant-loop : goal.invariant-loop
invariant-loop l = l.parts.items ≡ replicate l.counter None

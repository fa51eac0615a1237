use Rattle.std.proofs.Common.{◌≡◌, ◌++◌, replicate}
use Rattle.vdr_ais.proofs.ship.push_mmsi.Given as goal

abbrev pub invariant-loop : goal.invariant-loop
invariant-loop l = l.line.items ≡ l.initial.line.items ++ replicate l.counter 48

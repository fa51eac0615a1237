use Rattle.std.proofs.Common.{◌≡◌, replicate}
use Rattle.vdr_rows.proofs.reported.mmsi_of.Given as goal

abbrev pub invariant-loop : goal.invariant-loop
invariant-loop l = l.text.items ≡ replicate l.counter 48

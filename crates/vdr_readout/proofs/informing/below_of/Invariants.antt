use Rattle.std.proofs.Common.{◌≡◌}
use Rattle.vdr_teller.specs.Incidents.{rows_to}
use Rattle.vdr_readout.proofs.informing.below_of.Given as goal

abbrev pub invariant-loop-before : goal.invariant-loop-before
invariant-loop-before g l = l.below.items ≡ rows_to l.before (g.S.Saves.table l.saves)

use Rattle.std.proofs.Common.{sym, subst}
use Rattle.vdr_ais.specs.Tables.{AreShips}
use Rattle.vdr_ais.proofs.Reported.{no_ships}
use Rattle.vdr_ais.proofs.table.TargetTable.new.Goals as goal

pub invariant_of-result : goal.invariant_of-result
invariant_of-result c = subst AreShips (sym c.new-2.ensures.items) no_ships

use Rattle.std.proofs.Common.{◌≤◌, take}
use Rattle.std.specs.Io.KnownBytes.{Appends}
use Rattle.vdr_ais.specs.Targets.{targets_text}
use Rattle.vdr_ais.proofs.table.TargetTablePrintable.print.Given as goal

abbrev pub invariant-loop-ship : goal.invariant-loop-ship
invariant-loop-ship g l = record {
  written : Appends (g.O.Sink.taken l.initial.out) (g.O.Sink.taken l.out) (targets_text (take l.ship-index l.self.ships));
  later : g.O.Sink.faults l.initial.out ≤ g.O.Sink.faults l.out;
}

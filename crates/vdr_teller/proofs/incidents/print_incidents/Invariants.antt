use Rattle.std.proofs.Common.{◌≤◌}
use Rattle.std.specs.Io.KnownBytes.{Appends}
use Rattle.vdr_teller.specs.Incidents.{rows_to}
use Rattle.vdr_teller.proofs.incidents.print_incidents.Given as goal

abbrev pub invariant-loop-before : goal.invariant-loop-before
invariant-loop-before g l = record {
  printed : Appends (g.O.Sink.taken l.initial.out) (g.O.Sink.taken l.out) (rows_to l.before l.recorder.vault.table);
  later : g.O.Sink.faults l.initial.out ≤ g.O.Sink.faults l.out;
}

use Rattle.std.proofs.Common.{◌≤◌, take}
use Rattle.std.specs.Io.KnownBytes.{Appends}
use Rattle.vdr_sources.specs.Tables.{sources_text}
use Rattle.vdr_sources.proofs.table.SourceTablePrintable.print.Given as goal

abbrev pub invariant-loop-row : goal.invariant-loop-row
invariant-loop-row g l = record {
  written : Appends (g.O.Sink.taken l.initial.out) (g.O.Sink.taken l.out) (sources_text (take l.row-index l.self));
  later : g.O.Sink.faults l.initial.out ≤ g.O.Sink.faults l.out;
}

use Rattle.std.proofs.Common.{◌≤◌}
use Rattle.std.specs.Io.KnownBytes.{Appends}
use Rattle.vdr_tool.specs.Summaries.{lines_below}
use Rattle.vdr_tool.proofs.summary.SummaryPrintable.print.Given as goal

abbrev pub invariant-loop-group : goal.invariant-loop-group
invariant-loop-group g l = record {
  printed : Appends (g.O.Sink.taken l.initial.out) (g.O.Sink.taken l.out) (lines_below l.group l.self.groups);
  later : g.O.Sink.faults l.initial.out ≤ g.O.Sink.faults l.out;
}

use Rattle.std.proofs.Common.{◌≤◌, take}
use Rattle.std.specs.Io.KnownBytes.{Appends}
use Rattle.vdr_rescue.specs.Findings.{findings_text}
use Rattle.vdr_rescue.proofs.found.print_findings.Given as goal

abbrev pub invariant-loop-finding : goal.invariant-loop-finding
invariant-loop-finding g l = record {
  printed : Appends (g.O.Sink.taken l.fn.out) (g.O.Sink.taken l.out) (findings_text (take l.finding-index l.findings));
  later : g.O.Sink.faults l.fn.out ≤ g.O.Sink.faults l.out;
}

use Rattle.std.proofs.Common.{◌≤◌, take}
use Rattle.std.specs.Io.KnownBytes.{Appends}
use Rattle.vdr_compare.specs.Conditions.{damage_lines}
use Rattle.vdr_compare.proofs.condition.print_damages.Given as goal

abbrev pub invariant-loop-finding : goal.invariant-loop-finding
invariant-loop-finding g l = record {
  printed : Appends (g.O.Sink.taken l.fn.out) (g.O.Sink.taken l.out) (damage_lines l.medium (take l.finding-index l.findings));
  later : g.O.Sink.faults l.fn.out ≤ g.O.Sink.faults l.out;
}

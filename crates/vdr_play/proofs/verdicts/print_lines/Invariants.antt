use Rattle.std.proofs.Common.{◌≤◌, map}
use Rattle.std.specs.List.{flat_map}
use Rattle.std.specs.Io.KnownBytes.{Appends}
use Rattle.vdr_datagram.specs.Views.{span_of}
use Rattle.vdr_play.specs.Texts.{verdict_text}
use Rattle.vdr_play.proofs.verdicts.print_lines.Given as goal

abbrev pub invariant-loop-line : goal.invariant-loop-line
invariant-loop-line g l = record {
  written : Appends (g.O.Sink.taken l.initial.out) (g.O.Sink.taken l.out) (flat_map verdict_text (map span_of l.yielded));
  later : g.O.Sink.faults l.initial.out ≤ g.O.Sink.faults l.out;
}

use Rattle.std.proofs.Common.{◌≡◌, ◌≤◌, map}
use Rattle.std.specs.Io.KnownBytes.{Appends}
use Rattle.vdr_datagram.specs.Views.{span_of}
use Rattle.vdr_track.specs.Segments.{open_after}
use Rattle.vdr_track.specs.Texts.{steps_text}
use Rattle.vdr_track.proofs.Turning.{along}
use Rattle.vdr_track.proofs.segment.follow_lines.Given as goal

abbrev pub invariant-loop-line : goal.invariant-loop-line
invariant-loop-line g l = record {
  opened : l.last ≡ open_after l.initial.last (along l.source l.item (map span_of l.yielded));
  written : Appends (g.O.Sink.taken l.initial.out) (g.O.Sink.taken l.out) (steps_text l.initial.last (along l.source l.item (map span_of l.yielded)));
  later : g.O.Sink.faults l.initial.out ≤ g.O.Sink.faults l.out;
}

use Rattle.std.proofs.Common.{◌≤◌, List, map}
use Rattle.std.specs.Io.KnownBytes.{Appends}
use Rattle.vdr_datagram.specs.Views.{span_of}
use Rattle.vdr_ais.specs.Lines.{Key, Line}
use Rattle.vdr_ais.specs.Pending.{HasPlace, HasRead}
use Rattle.vdr_rows.specs.Tables.{back_by, lines_rows}
use Rattle.vdr_rows.specs.Texts.{rows_text}
use Rattle.vdr_rows.proofs.lines.print_lines.Given as goal

abbrev pub invariant-loop-line : goal.invariant-loop-line
invariant-loop-line g l = record {
  read : (back : List Line) → HasRead back l.initial.unfinished → HasRead (back_by back l.item.group (map span_of l.yielded)) l.unfinished;
  written : (back : List Line) → HasRead back l.initial.unfinished → Appends (g.O.Sink.taken l.initial.out) (g.O.Sink.taken l.out) (rows_text (lines_rows back l.item (map span_of l.yielded)));
  places : (key : Key) → HasPlace l.initial.unfinished key → HasPlace l.unfinished key;
  later : g.O.Sink.faults l.initial.out ≤ g.O.Sink.faults l.out;
}

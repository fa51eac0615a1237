use Rattle.std.proofs.Common.{◌≤◌, flat_map, take}
use Rattle.std.specs.Io.KnownBytes.{Appends}
use Rattle.vdr_values.specs.declared.column.Column.{Column}
use Rattle.vdr_rows.specs.Parts.{given_text}
use Rattle.vdr_rows.specs.Values.{said_by}
use Rattle.vdr_rows.specs.Views.{heading_said}
use Rattle.vdr_rows.proofs.sentence.print_columns.Given as goal

abbrev pub invariant-loop-column : goal.invariant-loop-column
invariant-loop-column g l = record {
  written : Appends (g.O.Sink.taken l.initial.out) (g.O.Sink.taken l.out) (flat_map (λ (c : Column). given_text (heading_said l.heading) (said_by l.reading.values c)) (take l.column-index l.columns));
  later : g.O.Sink.faults l.initial.out ≤ g.O.Sink.faults l.out;
}

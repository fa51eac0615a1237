use Rattle.std.proofs.Common.{◌≤◌, Option, flat_map, option_map, take}
use Rattle.std.specs.Io.KnownBytes.{Appends}
use Rattle.vdr_rows.specs.declared.said.Said.{Said}
use Rattle.vdr_rows.specs.Parts.{given_text}
use Rattle.vdr_rows.specs.Views.{heading_said, said_of}
use Rattle.vdr_rows.proofs.row.print_values.Given as goal

abbrev pub invariant-loop-said : goal.invariant-loop-said
invariant-loop-said g l = record {
  written : Appends (g.O.Sink.taken l.initial.out) (g.O.Sink.taken l.out) (flat_map (λ (s : Option Said). given_text (heading_said l.heading) (option_map said_of s)) (take l.said-index l.values));
  later : g.O.Sink.faults l.initial.out ≤ g.O.Sink.faults l.out;
}

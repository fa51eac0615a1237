use Rattle.std.proofs.Common.{◌≤◌, take}
use Rattle.std.specs.List.{flat_map}
use Rattle.std.specs.Io.KnownBytes.{Appends}
use Rattle.vdr_export.specs.Answers.{data_of}
use Rattle.vdr_export.proofs.parts.Parts.write.Given as goal

abbrev pub invariant-loop-part : goal.invariant-loop-part
invariant-loop-part g l = record {
  written : Appends (g.O.Sink.taken l.fn.out) (g.O.Sink.taken l.out) (flat_map data_of (take l.part-index l.fn.self));
  later : g.O.Sink.faults l.fn.out ≤ g.O.Sink.faults l.out;
}

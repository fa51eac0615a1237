use Rattle.std.proofs.Common.{◌≤◌, take}
use Rattle.std.specs.Io.KnownBytes.{Appends}
use Rattle.vdr_rows.specs.Texts.{doubled}
use Rattle.vdr_rows.proofs.quoted.print_each.Given as goal

abbrev pub invariant-loop-byte : goal.invariant-loop-byte
invariant-loop-byte g l = record {
  written : Appends (g.O.Sink.taken l.initial.out) (g.O.Sink.taken l.out) (doubled (take l.byte-index l.text));
  later : g.O.Sink.faults l.initial.out ≤ g.O.Sink.faults l.out;
}

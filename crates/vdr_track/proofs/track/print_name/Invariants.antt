use Rattle.std.proofs.Common.{◌≤◌, take}
use Rattle.std.specs.List.{flat_map}
use Rattle.std.specs.Io.KnownBytes.{Appends}
use Rattle.vdr_track.specs.Texts.{entity}
use Rattle.vdr_track.proofs.track.print_name.Given as goal

abbrev pub invariant-loop-byte : goal.invariant-loop-byte
invariant-loop-byte g l = record {
  written : Appends (g.O.Sink.taken l.initial.out) (g.O.Sink.taken l.out) (flat_map entity (take l.byte-index l.name));
  later : g.O.Sink.faults l.initial.out ≤ g.O.Sink.faults l.out;
}

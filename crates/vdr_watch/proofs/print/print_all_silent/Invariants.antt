use Rattle.std.proofs.Common.{◌≤◌, take}
use Rattle.std.specs.Io.KnownBytes.{Appends}
use Rattle.std.specs.List.{flat_map}
use Rattle.vdr_watch.specs.Texts.{silent_text}
use Rattle.vdr_watch.proofs.print.print_all_silent.Given as goal

abbrev pub invariant-loop-beat : goal.invariant-loop-beat
invariant-loop-beat g l = record {
  written : Appends (g.O.Sink.taken l.initial.out) (g.O.Sink.taken l.out) (flat_map (silent_text l.mark) (take l.beat-index l.beats));
  later : g.O.Sink.faults l.initial.out ≤ g.O.Sink.faults l.out;
}

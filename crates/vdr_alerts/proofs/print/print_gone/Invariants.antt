use Rattle.std.proofs.Common.{◌≤◌, take}
use Rattle.std.specs.Io.KnownBytes.{Appends}
use Rattle.std.specs.List.{flat_map}
use Rattle.vdr_alerts.specs.Boards.{gone_text}
use Rattle.vdr_alerts.proofs.print.print_gone.Given as goal

abbrev pub invariant-loop-alert : goal.invariant-loop-alert
invariant-loop-alert g l = record {
  written : Appends (g.O.Sink.taken l.initial.out) (g.O.Sink.taken l.out) (flat_map (gone_text l.mark l.is_ended l.part l.reading.values) (take l.alert-index l.alerts));
  later : g.O.Sink.faults l.initial.out ≤ g.O.Sink.faults l.out;
}

use Rattle.std.proofs.Common.{◌-◌, ◌≤◌}
use Rattle.std.specs.Io.KnownBytes.{Appends}
use Rattle.vdr_export.specs.Sounds.{silence}
use Rattle.vdr_export.proofs.silence.write_silence.Given as goal

abbrev pub invariant-loop-left : goal.invariant-loop-left
invariant-loop-left g l = record {
  within : l.left ≤ l.samples;
  written : Appends (g.O.Sink.taken l.fn.out) (g.O.Sink.taken l.out) (silence (l.samples - l.left));
  later : g.O.Sink.faults l.fn.out ≤ g.O.Sink.faults l.out;
}

abbrev pub decreases-loop-left : goal.decreases-loop-left
decreases-loop-left g l = l.left

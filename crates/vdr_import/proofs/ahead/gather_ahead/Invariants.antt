-- The feed of the items gathered so far was written, or waits.
use Rattle.std.proofs.Common.{◌≡◌, ◌≤◌, None, true, length}
use Rattle.vdr_import.specs.Progress.{GoesOn}
use Rattle.vdr_import.specs.Relayed.{held_in}
use Rattle.vdr_import.proofs.ahead.gather_ahead.Given as goal

abbrev pub invariant-packets : goal.invariant-packets
invariant-packets g l = record {
  begun : l.reader.begun ≡ true;
  going : l.reader.stopped ≡ None;
  on : GoesOn (held_in l.fn.ahead) (held_in l.ahead) l.fn.reader l.reader (g.O.Sink.taken l.fn.output) (g.O.Sink.taken l.output) (held_in l.fn.gathered) (held_in l.gathered);
  later : g.O.Sink.faults l.fn.output ≤ g.O.Sink.faults l.output;
}

abbrev pub decreases-packets : goal.decreases-packets
decreases-packets g l = length (held_in l.ahead)

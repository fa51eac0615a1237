-- What was written so far is held no longer.
use Rattle.std.proofs.Common.{◌-◌, ◌≤◌}
use Rattle.vdr_import.specs.Relayed.{Gathers, held_in}
use Rattle.vdr_import.proofs.buffers.Buffer.hand_on.Given as goal

abbrev pub invariant-loop-self : goal.invariant-loop-self
invariant-loop-self g l = record {
  handed : Gathers (g.O.Sink.taken l.initial.output) (g.O.Sink.taken l.output) (held_in l.initial.self) (held_in l.self);
  later : g.O.Sink.faults l.initial.output ≤ g.O.Sink.faults l.output;
}

abbrev pub decreases-loop-self : goal.decreases-loop-self
decreases-loop-self g l = l.self.to - l.self.from

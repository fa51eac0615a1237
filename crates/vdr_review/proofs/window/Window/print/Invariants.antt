use Rattle.std.proofs.Common.{◌≤◌}
use Rattle.std.specs.VecDeque.Iter.{deque_iter_rest}
use Rattle.vdr_review.proofs.Printing.{Printed}
use Rattle.vdr_review.proofs.window.Window.print.Given as goal

abbrev pub invariant-loop-kept : goal.invariant-loop-kept
invariant-loop-kept g l = record {
  printed : Printed (g.O.Sink.taken l.initial.out) (g.O.Sink.taken l.out) l.tracks l.last l.self (deque_iter_rest l.kept-iterator);
  later : g.O.Sink.faults l.initial.out ≤ g.O.Sink.faults l.out;
}

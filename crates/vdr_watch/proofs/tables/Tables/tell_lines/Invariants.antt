use Rattle.std.proofs.Common.{◌≤◌, ◌+◌, ℕ, List, length, map}
use Rattle.std.specs.Io.KnownBytes.{Appends}
use Rattle.vdr_datagram.specs.Views.{span_of}
use Rattle.vdr_watch.specs.Signs.{Sign}
use Rattle.vdr_watch.specs.Supervision.{met_after}
use Rattle.vdr_watch.specs.TableViews.{HasRoom, Keeps}
use Rattle.vdr_watch.specs.Texts.{signs_text}
use Rattle.vdr_watch.proofs.Lines.{signs_along}
use Rattle.vdr_watch.proofs.tables.Tables.tell_lines.Given as goal

abbrev pub invariant-loop-line : goal.invariant-loop-line
invariant-loop-line g l = record {
  some : (met : List Sign) × Keeps met l.self;
  kept : (met : List Sign) → Keeps met l.initial.self → Keeps (met_after met (signs_along l.group l.mark.tick (map span_of l.yielded))) l.self;
  written : (met : List Sign) → Keeps met l.initial.self
      → Appends (g.O.Sink.taken l.initial.out) (g.O.Sink.taken l.out) (signs_text l.mark met (signs_along l.group l.mark.tick (map span_of l.yielded)));
  room : (n : ℕ) → HasRoom l.initial.self (length l.yielded + n) → HasRoom l.self n;
  later : g.O.Sink.faults l.initial.out ≤ g.O.Sink.faults l.out;
}

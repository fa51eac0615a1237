-- The feed of the items read so far was written, or waits.
use Rattle.std.proofs.Common.{◌≤◌, ◌+◌, ◌-◌}
use Rattle.std.specs.Io.KnownBytes.{prepend_known}
use Rattle.vdr_feed.specs.Feed.{longest_feed}
use Rattle.vdr_import.specs.Progress.{HasGathered}
use Rattle.vdr_import.specs.Relayed.{held_in}
use Rattle.vdr_import.proofs.importing.gather_feed.Given as goal

abbrev pub invariant-items : goal.invariant-items
invariant-items g l = record {
  read : HasGathered (g.I.Source.left l.fn.input) (prepend_known (held_in l.buffers.ahead) (g.I.Source.left l.input)) l.reader
      (g.O.Sink.taken l.fn.output) (g.O.Sink.taken l.output) (held_in l.buffers.gathered);
  later_input : g.I.Source.faults l.fn.input ≤ g.I.Source.faults l.input;
  later_output : g.O.Sink.faults l.fn.output ≤ g.O.Sink.faults l.output;
}

abbrev pub decreases-items : goal.decreases-items
decreases-items g l = longest_feed + 1 - l.reader.course.account.items

-- A part of the capture was read.
use Rattle.std.proofs.Common.{◌≤◌, ◌+◌, ◌-◌, List}
use Rattle.vdr_feed.specs.Feed.{longest_feed}
use Rattle.vdr_pcap.specs.Capture.{Part}
use Rattle.vdr_import.specs.Progress.{HasRead}
use Rattle.vdr_import.proofs.counting.read_all.Given as goal

abbrev pub invariant-loop-item : goal.invariant-loop-item
invariant-loop-item g l = record {
  read : (parts : List Part) × HasRead (g.I.Source.left l.fn.input) (g.I.Source.left l.input) l.reader parts;
  later : g.I.Source.faults l.fn.input ≤ g.I.Source.faults l.input;
}

abbrev pub decreases-loop-item : goal.decreases-loop-item
decreases-loop-item g l = longest_feed + 1 - l.reader.course.account.items

use Rattle.std.proofs.Common.{◌≡◌, ◌≤◌, ◌-◌, ◌^◌, []}
use Rattle.vdr_pcap.specs.Steps.{Gives, course_of}
use Rattle.vdr_pcap.proofs.steps.read_item.Given as goal

abbrev pub invariant-loop-stepped : goal.invariant-loop-stepped
invariant-loop-stepped g l = record {
  gives : Gives (g.I.Source.left l.fn.input) (g.I.Source.left l.input) l.limit (course_of l.fn.course) (course_of l.course) [];
  held : l.into ≡ l.fn.into;
  later : g.I.Source.faults l.fn.input ≤ g.I.Source.faults l.input;
}

abbrev pub decreases-loop-stepped : goal.decreases-loop-stepped
decreases-loop-stepped g l = 2 ^ 64 - l.course.offset

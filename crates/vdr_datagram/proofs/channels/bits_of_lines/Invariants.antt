use Rattle.vdr_datagram.specs.Verdicts.{line_spans}
use Rattle.vdr_datagram.specs.Views.{lines_left}
use Rattle.vdr_datagram.proofs.LineLemmas.{HasBits}
use Rattle.vdr_datagram.proofs.channels.bits_of_lines.Given as goal

abbrev pub invariant-loop-line : goal.invariant-loop-line
invariant-loop-line l =
    goal.iterator-loop-line.can_next l.line-iterator × goal.iterator-loop-line.is_finite l.line-iterator
    × HasBits l.group l.bits l.channels (line_spans l.bytes) (lines_left l.line-iterator)

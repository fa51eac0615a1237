use Rattle.std.proofs.Common.{◌≡◌, ◌≤◌, ◌++◌, ℕ, List, length}
use Rattle.std.specs.Io.KnownBytes.{Appends}
use Rattle.vdr_base64.specs.Lines.{whole_lines}
use Rattle.vdr_base64.proofs.lines.print_whole.Given as goal

abbrev pub invariant-loop-rest : goal.invariant-loop-rest
invariant-loop-rest g l =
    (printed : List ℕ) × (whole_lines l.bytes ≡ printed ++ whole_lines l.rest) × Appends (g.O.Sink.taken l.initial.out) (g.O.Sink.taken l.out) printed
    × (g.O.Sink.faults l.initial.out ≤ g.O.Sink.faults l.out)

abbrev pub decreases-loop-rest : goal.decreases-loop-rest
decreases-loop-rest g l = length l.rest

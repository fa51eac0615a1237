use Rattle.std.proofs.Common.{◌≡◌, ◌+◌, length, List, ℕ, ◌≤◌}
use Rattle.std.specs.Io.KnownBytes.{Consumes}
use Rattle.vdr_pcap.proofs.filling.pass.Given as goal

abbrev pub invariant-loop-left : goal.invariant-loop-left
invariant-loop-left g l = record {
  within : l.left ≤ l.size;
  read : (bytes : List ℕ) × (length bytes + l.left ≡ l.size) × Consumes (g.I.Source.left l.initial.input) (g.I.Source.left l.input) bytes;
  later : g.I.Source.faults l.initial.input ≤ g.I.Source.faults l.input;
}

abbrev pub decreases-loop-left : goal.decreases-loop-left
decreases-loop-left g l = l.left

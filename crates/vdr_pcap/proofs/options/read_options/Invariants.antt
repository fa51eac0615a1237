use Rattle.std.proofs.Common.{◌≡◌, ◌+◌, ◌++◌, length, List, ℕ, ◌≤◌}
use Rattle.std.specs.Io.KnownBytes.{Consumes}
use Rattle.vdr_pcap.specs.Options.{none_noted, options_from}
use Rattle.vdr_pcap.proofs.options.read_options.Given as goal

abbrev pub invariant-loop-left : goal.invariant-loop-left
invariant-loop-left g l = record {
  read : (bytes : List ℕ) × (length bytes + l.left ≡ l.size) × Consumes (g.I.Source.left l.initial.input) (g.I.Source.left l.input) bytes
      × ((rest : List ℕ) → length rest ≡ l.left → options_from l.big l.kind none_noted 0 (bytes ++ rest) ≡ options_from l.big l.kind l.noted 0 rest);
  later : g.I.Source.faults l.initial.input ≤ g.I.Source.faults l.input;
}

abbrev pub decreases-loop-left : goal.decreases-loop-left
decreases-loop-left g l = l.left

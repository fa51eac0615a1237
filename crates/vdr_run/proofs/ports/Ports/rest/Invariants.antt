use Rattle.std.proofs.Common.{◌≡◌, ◌<◌, ℕ, length}
use Rattle.vdr_run.specs.Making.{rest_of}
use Rattle.vdr_run.specs.Given.{tally_of}
use Rattle.vdr_run.proofs.ports.Ports.rest.Given as goal

abbrev pub invariant-loop-group : goal.invariant-loop-group
invariant-loop-group l = record {
  each : (g : ℕ) → g < l.group → rest_of l.rest g ≡ (tally_of l.self g).missed;
  sixteen : length l.rest ≡ 16;
}

use Rattle.std.proofs.Common.{◌≤◌}
use Rattle.vdr_ring.specs.Rings.{HasMedium}
use Rattle.vdr_bench.proofs.appending.append_all.Given as goal

abbrev pub invariant-loop-number : goal.invariant-loop-number
invariant-loop-number g l = HasMedium l.ring (g.M.Media.disk l.media).sizes × (8192 ≤ l.ring.segment)

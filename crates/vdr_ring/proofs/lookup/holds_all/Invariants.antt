use Rattle.std.proofs.Common.{◌≤◌}
use Rattle.vdr_ring.proofs.Holding.{HasLeft}
use Rattle.vdr_ring.proofs.lookup.holds_all.Given as goal

abbrev pub invariant-loop-slot : goal.invariant-loop-slot
invariant-loop-slot l = (l.a ≤ l.place) × (l.place ≤ l.b) × HasLeft l.a l.place l.index l.order l.slot-index

use Rattle.std.proofs.Common.{subst}
use Rattle.vdr_ring.specs.Damage.{IsIntact}
use Rattle.vdr_ring.proofs.ring.Ring.load.Goals as goal

pub returns-clause-judged : goal.returns-clause-judged
returns-clause-judged g c _ = subst IsIntact c.deref.ensures.value c.in_default.ensures.none

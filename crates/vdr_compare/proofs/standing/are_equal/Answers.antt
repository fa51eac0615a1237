use Rattle.std.proofs.Common.{subst}
use Rattle.vdr_terms.specs.Legality.{IsRecord}
use Rattle.vdr_compare.proofs.standing.are_equal.Goals as goal

pub returns-else-a-b-6-clause-legal : goal.returns-else-a-b-6-clause-legal
returns-else-a-b-6-clause-legal c = (subst IsRecord c.a.view_is c.a.invariant.legal, subst IsRecord c.b.view_is c.b.invariant.legal)

use Rattle.vdr_verify.proofs.Visits.{digest_other}
use Rattle.vdr_verify.proofs.Pieces.{took}
use Rattle.vdr_verify.proofs.rereading.is_met.Goals as goal

pub returns-then-ne-clause-other : goal.returns-then-ne-clause-other
returns-then-ne-clause-other g c = λ met. digest_other _ _ _ _ _ _ _ (took _ _ _ _ _ _ _ _ c.in_ok-take.was c.if-not-branch.false c.take.ensures.takes) c.take.auto.into c.digest.ensures c.ne.result c.ne.ensures c.if-ne.true

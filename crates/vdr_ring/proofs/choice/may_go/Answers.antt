use Rattle.vdr_ring.proofs.Choosing.{goes_by_test}
use Rattle.vdr_ring.proofs.choice.may_go.Goals as goal

pub returns-then-end_by : goal.returns-then-end_by
returns-then-end_by c = goes_by_test _ _ _ _ _ _ c.end_by.result _ c.as_slice.ensures c.in-Some.is c.end_by.ensures c.if-end_by.true c.is_apart_from.ensures

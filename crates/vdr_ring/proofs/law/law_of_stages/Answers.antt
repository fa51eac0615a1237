use Rattle.vdr_ring.proofs.law.law_of_stages.Goals as goal
use Rattle.vdr_ring.proofs.Oldest.{oldest_candidate, victim_is_oldest}
use Rattle.vdr_ring.proofs.Retaining.{closed_retains, begun_retains, done_retains, left_retains, stages_regular}

pub returns-clause-victim : goal.returns-clause-victim
returns-clause-victim c = victim_is_oldest

pub returns-clause-candidate : goal.returns-clause-candidate
returns-clause-candidate c = oldest_candidate

pub returns-clause-closed : goal.returns-clause-closed
returns-clause-closed c = closed_retains

pub returns-clause-begun : goal.returns-clause-begun
returns-clause-begun c = begun_retains

pub returns-clause-done : goal.returns-clause-done
returns-clause-done c = done_retains

pub returns-clause-left : goal.returns-clause-left
returns-clause-left c = left_retains

pub returns-clause-regular : goal.returns-clause-regular
returns-clause-regular c = stages_regular

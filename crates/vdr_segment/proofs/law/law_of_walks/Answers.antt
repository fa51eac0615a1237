use Rattle.vdr_segment.proofs.BatchListLemmas.{one_walk, walk_tells}
use Rattle.vdr_segment.proofs.law.law_of_walks.Goals as goal

pub returns-clause-one : goal.returns-clause-one
returns-clause-one c = one_walk

pub returns-clause-batches : goal.returns-clause-batches
returns-clause-batches c = walk_tells

use Rattle.vdr_durability.proofs.keeping.law_of_acknowledgment.Goals as goal
use Rattle.vdr_durability.proofs.Acknowledged.{acknowledged_with, acknowledged_without, acknowledged_within}
use Rattle.vdr_durability.proofs.Whole.{whole_has_not_failed}

pub returns-clause-counts : goal.returns-clause-counts
returns-clause-counts c = acknowledged_with

pub returns-clause-waits : goal.returns-clause-waits
returns-clause-waits c = acknowledged_without

pub returns-clause-within : goal.returns-clause-within
returns-clause-within c = acknowledged_within

pub returns-clause-whole : goal.returns-clause-whole
returns-clause-whole c = whole_has_not_failed

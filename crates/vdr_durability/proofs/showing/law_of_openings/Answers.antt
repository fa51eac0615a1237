use Rattle.vdr_durability.proofs.showing.law_of_openings.Goals as goal
use Rattle.vdr_durability.proofs.Shows.{opened_shows, reconciled_shows, reconciling_shows}

pub returns-clause-reconciling : goal.returns-clause-reconciling
returns-clause-reconciling c = λ members given waiting settings before reading batch. reconciling_shows members settings before reading given waiting batch

pub returns-clause-reconciled : goal.returns-clause-reconciled
returns-clause-reconciled c = reconciled_shows

pub returns-clause-restored : goal.returns-clause-restored
returns-clause-restored c = opened_shows

use Rattle.vdr_durability.proofs.playback_law.law_of_sources.Goals as goal
use Rattle.vdr_durability.proofs.Tables.{are_rows}
use Rattle.vdr_durability.proofs.OneTable.{one_table}

pub returns-clause-rows : goal.returns-clause-rows
returns-clause-rows c = are_rows

pub returns-clause-one : goal.returns-clause-one
returns-clause-one c = one_table

use Rattle.std.proofs.Common.{rules}
use Rattle.vdr_teller.specs.Incidents.{incident_row}
use Rattle.vdr_teller.proofs.incidents.row_of.Goals as goal

pub returns : goal.returns
unfolding incident_row
returns c = search rules

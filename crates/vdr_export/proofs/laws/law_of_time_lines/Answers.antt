use Rattle.vdr_export.proofs.TimeLines.{goes_on, in_time}
use Rattle.vdr_export.proofs.laws.law_of_time_lines.Goals as goal

pub returns-clause-in_time : goal.returns-clause-in_time
returns-clause-in_time c = in_time

pub returns-clause-goes_on : goal.returns-clause-goes_on
returns-clause-goes_on c = goes_on

use Rattle.std.proofs.Common.{rules}
use Rattle.vdr_runs.specs.Runs.{missed_line}
use Rattle.vdr_runs.proofs.print.missed_line.Goals as goal

pub returns-clause-text : goal.returns-clause-text
unfolding missed_line
returns-clause-text c = search rules

use Rattle.std.proofs.Common.{rules}
use Rattle.vdr_runs.specs.Runs.{run_line}
use Rattle.vdr_runs.proofs.print.run_line.Goals as goal

pub returns-clause-text : goal.returns-clause-text
unfolding run_line
returns-clause-text c = search rules

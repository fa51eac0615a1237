use Rattle.vdr_tool.proofs.ReplayEndings.{prints_refused}
use Rattle.vdr_tool.proofs.ReplayLemmas.{wrote_of}
use Rattle.vdr_tool.proofs.replaying.print_run.Goals as goal

pub returns-in-Refused-clause-printed : goal.returns-in-Refused-clause-printed
returns-in-Refused-clause-printed g c =
    let print = c.print_buffered-printed.ensures in
    prints_refused _ _ _ _ _ _ c.in-Refused.is (wrote_of c.print_buffered-printed.result _ _ _ _ _ print.all print.front print.cause)

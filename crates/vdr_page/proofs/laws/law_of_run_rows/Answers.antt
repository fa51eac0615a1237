use Rattle.vdr_page.proofs.GapCounts.{gaps_are_counted}
use Rattle.vdr_page.proofs.Parting.{run_rows_add_up}
use Rattle.vdr_page.proofs.laws.law_of_run_rows.Goals as goal

pub returns-clause-runs : goal.returns-clause-runs
returns-clause-runs c = run_rows_add_up

pub returns-clause-gaps : goal.returns-clause-gaps
returns-clause-gaps c = gaps_are_counted

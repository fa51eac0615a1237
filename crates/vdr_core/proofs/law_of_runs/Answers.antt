use Rattle.vdr_core.proofs.law_of_runs.Goals as goal
use Rattle.vdr_core.proofs.Past.{always_kept, all_have_ended, all_add_up, all_count_full}
use Rattle.vdr_core.proofs.HistoryRecords.{history_runs_on}

pub returns-clause-begins : goal.returns-clause-begins
returns-clause-begins c = λ plan ok place last steps. (always_kept plan place last ok steps).past.run_on

pub returns-clause-ended : goal.returns-clause-ended
returns-clause-ended c = all_have_ended

pub returns-clause-sums : goal.returns-clause-sums
returns-clause-sums c = all_add_up

pub returns-clause-full : goal.returns-clause-full
returns-clause-full c = all_count_full

pub returns-clause-records : goal.returns-clause-records
returns-clause-records c = history_runs_on

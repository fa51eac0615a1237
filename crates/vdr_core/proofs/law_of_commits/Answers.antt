use Rattle.vdr_core.proofs.law_of_commits.Goals as goal
use Rattle.vdr_core.proofs.Commits.{further_items, closes}
use Rattle.vdr_core.proofs.MadeHistory.{made_runs_on}
use Rattle.vdr_core.proofs.RecorderHistory.{are_recorders}

pub returns-clause-further : goal.returns-clause-further
returns-clause-further c = further_items

pub returns-clause-close : goal.returns-clause-close
returns-clause-close c = closes

pub returns-clause-history : goal.returns-clause-history
returns-clause-history c = λ plan place last steps lasts. are_recorders plan place last steps lasts

pub returns-clause-records : goal.returns-clause-records
returns-clause-records c = made_runs_on

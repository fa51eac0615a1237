use Rattle.vdr_index.proofs.AuditLemmas.{never_agrees, one_difference}
use Rattle.vdr_index.proofs.survey_law.law_of_audits.Goals as goal

pub returns-clause-either : goal.returns-clause-either
returns-clause-either c = λ segment first s bs at. never_agrees first s segment bs at

pub returns-clause-offset : goal.returns-clause-offset
returns-clause-offset c = λ segment first s m n. one_difference first s segment m n

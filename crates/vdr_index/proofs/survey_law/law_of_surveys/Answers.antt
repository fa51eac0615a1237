use Rattle.vdr_segment.proofs.BatchListLemmas.{one_batches}
use Rattle.vdr_index.proofs.SpanLemmas.{one_break, never_both}
use Rattle.vdr_index.proofs.SurveyLemmas.{one_survey}
use Rattle.vdr_index.proofs.survey_law.law_of_surveys.Goals as goal

pub returns-clause-batches : goal.returns-clause-batches
returns-clause-batches c = λ segment bs cs. one_batches _ bs cs

pub returns-clause-offset : goal.returns-clause-offset
returns-clause-offset c = one_break

pub returns-clause-either : goal.returns-clause-either
returns-clause-either c = never_both

pub returns-clause-survey : goal.returns-clause-survey
returns-clause-survey c = one_survey

use Rattle.vdr_index.proofs.SurveyLemmas.{surveys_more}
use Rattle.vdr_index.proofs.extent.Survey.joined.Goals as goal

pub returns-clause-survey : goal.returns-clause-survey
returns-clause-survey c = λ batches records v comes end_is.
    surveys_more c.args.first batches records c.args.self c.args.stretch c.args.end c.grown.result c.goes_on_with.result c.grown_summary.result v comes end_is c.grown.ensures c.goes_on_with.ensures c.grown_summary.ensures

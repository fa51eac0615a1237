use Rattle.vdr_watch.proofs.Records.{text_with}
use Rattle.vdr_watch.proofs.laws.law_of_watch.Goals as goal

pub returns-clause-one_more : goal.returns-clause-one_more
returns-clause-one_more c = text_with

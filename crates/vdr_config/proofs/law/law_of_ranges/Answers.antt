use Rattle.vdr_config.proofs.Ranges.{ranges_of}
use Rattle.vdr_config.proofs.law.law_of_ranges.Goals as goal

pub returns-clause-slots : goal.returns-clause-slots
returns-clause-slots c text config is = (ranges_of text config is).0

pub returns-clause-incident : goal.returns-clause-incident
returns-clause-incident c text config is = (ranges_of text config is).1

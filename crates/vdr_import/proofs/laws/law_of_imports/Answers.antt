use Rattle.vdr_import.proofs.Legal.{feeds_are_feeds}
use Rattle.vdr_import.proofs.laws.law_of_imports.Goals as goal

pub returns : goal.returns
returns c = feeds_are_feeds

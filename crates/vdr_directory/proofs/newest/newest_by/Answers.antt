use Rattle.vdr_directory.proofs.Entering.{newest_read}
use Rattle.vdr_directory.proofs.newest.newest_by.Goals as goal

pub returns-clause-newest : goal.returns-clause-newest
returns-clause-newest c p d none = newest_read p _ _ d none c.end_in.ensures

use Rattle.vdr_directory.proofs.Endings.{ending_read}
use Rattle.vdr_directory.proofs.newest.ending_of.Goals as goal

pub returns : goal.returns
returns c = ending_read c.args.records.now _ _ _ c.requires c.index-records-0.is c.index-records-records.is c.ending_from.ensures

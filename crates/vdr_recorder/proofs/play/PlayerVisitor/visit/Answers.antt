use Rattle.vdr_recorder.proofs.Printing.{tracks_with}
use Rattle.vdr_recorder.proofs.play.PlayerVisitor.visit.Goals as goal

pub returns-in-Ok-clause-has : goal.returns-in-Ok-clause-has
returns-in-Ok-clause-has g c first seen had = tracks_with first.tracks c.args.self.now.tracks c.print_record.new.tracks seen c.args.item.now had c.in-Ok.ensures.seen

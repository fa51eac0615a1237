use Rattle.std.proofs.Common.{refl}
use Rattle.vdr_entry.specs.Queries.{asked}
use Rattle.vdr_recorder.proofs.Printing.{played}
use Rattle.vdr_recorder.proofs.recorder.Recorder.play.Goals as goal

pub returns-clause-played : goal.returns-clause-played
returns-clause-played g c =
    played (asked c.args.query.now) c.args.self.now.vault (g.M.Media.disk c.args.media.now) (g.O.Sink.taken c.args.out.now) (g.O.Sink.taken c.visit.new.out) c.visit.result c.new.result.tracks _ c.new.ensures c.visit.ensures.damage
    (c.visit.ensures.visited c.new.result refl)

use Rattle.std.proofs.Common.{sym}
use Rattle.vdr_entry.specs.Queries.{asked}
use Rattle.vdr_recorder.proofs.Visits.{one_visit, read_so}
use Rattle.vdr_recorder.proofs.reading.RecorderReader.visit.Goals as goal

pub returns-clause-handed : goal.returns-clause-handed
returns-clause-handed g c = rw (sym c.self.view_is) (λ first had. one_visit g.M.Media (asked c.args.query.now) _ c.args.media.now c.visit_selected.result (c.visit_selected.ensures.visited first had))

pub returns-clause-leaves : goal.returns-clause-leaves
returns-clause-leaves g c = rw (sym c.self.view_is)
    (read_so g.M.Media (asked c.args.query.now) _ c.visit_selected.new.vault c.args.media.now c.visit_selected.new.media c.visit_selected.result
    c.visit_selected.ensures.read c.visit_selected.ensures.cause c.visit_selected.ensures.damage)

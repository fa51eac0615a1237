use Rattle.std.proofs.Common.{ap}
use Rattle.vdr_entry.specs.Queries.{asked}
use Rattle.vdr_visit.specs.Visits.{end_of}
use Rattle.vdr_recorder.proofs.Visits.{looked_as, told_as, visited_so}
use Rattle.vdr_recorder.proofs.recorder.Recorder.visit.Goals as goal

pub returns-clause-visited : goal.returns-clause-visited
returns-clause-visited g c first had = visited_so g.M.Media (asked c.args.query.now) c.args.self.now c.args.media.now c.visit_buffered.result (c.visit_buffered.ensures.handed first had)

pub returns-clause-damage : goal.returns-clause-damage
returns-clause-damage g c =
    told_as (asked c.args.query.now) c.args.self.now.vault (g.M.Media.disk c.args.media.now) _ _ _ _ (λ m offset is. ap end_of is) (λ done. ap end_of done) c.visit_buffered.ensures.leaves.damage

pub returns-clause-looked : goal.returns-clause-looked
returns-clause-looked g c = looked_as _ _ _ _ _ _ _ _ _ _ _ (λ is. ap end_of is) c.visit_buffered.ensures.leaves.looked

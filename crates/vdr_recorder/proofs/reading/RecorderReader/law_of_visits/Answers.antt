use Rattle.vdr_recorder.proofs.Visits.{channels_stay, failed_before, incidents_stay, no_visit, still_selects, two_visits, visit_cut}
use Rattle.vdr_recorder.proofs.reading.RecorderReader.law_of_visits.Goals as goal

pub returns-clause-may : goal.returns-clause-may
returns-clause-may g c query a b x y end h = h.looked.read.rings

pub returns-clause-channel : goal.returns-clause-channel
returns-clause-channel g c query a b x y end h = channels_stay g.M.Media query a b x y end h

pub returns-clause-incident : goal.returns-clause-incident
returns-clause-incident g c query a b x y end h = incidents_stay g.M.Media query a b x y end h

pub returns-clause-told : goal.returns-clause-told
returns-clause-told g c query a b x y end h records t = still_selects g.M.Media query a b x y end h records t

pub returns-clause-failed : goal.returns-clause-failed
returns-clause-failed g c query a x rings had = failed_before g.M.Media query a x rings had

pub returns-clause-none : goal.returns-clause-none
returns-clause-none g c query a x rings = no_visit g.M.Media query a x rings

pub returns-clause-cut : goal.returns-clause-cut
returns-clause-cut g c query a b x y end h = visit_cut g.M.Media query a b x y end h

pub returns-clause-joined : goal.returns-clause-joined
returns-clause-joined g c query r s t x y z end h k = two_visits g.M.Media query r s t x y z end h k

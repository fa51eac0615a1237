use Rattle.vdr_entry.specs.Queries.{asked}
use Rattle.vdr_visit.specs.Visits.{ReadEnd}
use Rattle.vdr_visit.proofs.Printing.{blamed, closed_end, closed_so}
use Rattle.vdr_visit.proofs.buffered.visit_lent.Goals as goal

pub returns-then-failed_at_output-clause-handed : goal.returns-then-failed_at_output-clause-handed
returns-then-failed_at_output-clause-handed g c first had =
    blamed (c.visit-ended.ensures.handed first had) g.B.Opening.start (g.O.Sink.taken c.abandon.result.sink.now) c.new-out.ensures.taken c.abandon.ensures.front c.abandon.ensures.grown
    c.visit-ended.result (c.failed_at_output.ensures c.if-failed_at_output.true)

pub returns-clause-handed : goal.returns-clause-handed
returns-clause-handed g c first had =
    closed_so (c.visit-ended.ensures.handed first had) g.B.Opening.start (g.O.Sink.taken c.close-lent.result.0.sink.now) c.new-out.ensures.taken c.close-lent.ensures.front c.close-lent.ensures.grown
    c.close-lent.result.1 c.ended_by.result c.close-lent.ensures.all c.ended_by.ensures.same c.ended_by.ensures.blamed

pub returns-clause-leaves : goal.returns-clause-leaves
returns-clause-leaves g c =
    closed_end (λ (e : ReadEnd). g.R.Reader.leaves _ g.M.Media (asked c.args.query.now) c.args.reader.now c.visit-ended.new.self c.args.media.now c.visit-ended.new.media e)
    c.visit-ended.result c.ended_by.result c.close-lent.result.1 c.ended_by.ensures.same c.ended_by.ensures.blamed
    c.visit-ended.ensures.leaves (c.law_of_visits.ensures.cut _ _ _ _ _ _ c.visit-ended.ensures.leaves)

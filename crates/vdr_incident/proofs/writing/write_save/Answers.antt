use Rattle.vdr_terms.proofs.Results.{on_ok_both}
use Rattle.vdr_incident.proofs.Writes.{body_moments, gate_moments, gate_settled}
use Rattle.vdr_incident.proofs.writing.write_save.Goals as goal

pub returns-in_err-write_through-clause-moments : goal.returns-in_err-write_through-clause-moments
returns-in_err-write_through-clause-moments g c slots table settled held =
    body_moments slots c.args.slot _ table c.args.save.now _ c.place_of-place.ensures c.body.ensures.size held c.body.ensures.spells _ _ settled c.write_through.ensures.moments

pub returns-clause-moments : goal.returns-clause-moments
returns-clause-moments g c slots table settled held =
    gate_moments slots c.args.slot _ table c.args.save.now _ c.place_of-place.ensures c.body.ensures.size held c.body.ensures.spells _ _ settled c.write_through.ensures.moments
    c.in_ok-write_through.ensures.writes.durable c.in_ok-write_through.ensures.reads _ c.write_through-2.ensures.moments

pub returns-clause-settled : goal.returns-clause-settled
returns-clause-settled g c slots table settled held =
    on_ok_both c.write_through-2.result
    (gate_settled slots c.args.slot _ table c.args.save.now _ c.place_of-place.ensures c.body.ensures.size held c.body.ensures.spells _ _ settled c.write_through.ensures.moments
    c.in_ok-write_through.ensures.writes.durable c.in_ok-write_through.ensures.reads _)
    c.write_through-2.ensures.writes.durable c.write_through-2.ensures.reads

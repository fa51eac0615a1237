use Rattle.vdr_terms.proofs.Results.{on_ok_both}
use Rattle.vdr_incident.proofs.Writes.{close_moments, close_settled}
use Rattle.vdr_incident.proofs.writing.close_slot.Goals as goal

pub returns-clause-moments : goal.returns-clause-moments
returns-clause-moments g c slots table x settled held =
    close_moments slots c.args.slot _ table x c.place_of.ensures held _ _ settled c.write_through.ensures.moments

pub returns-clause-settled : goal.returns-clause-settled
returns-clause-settled g c slots table x settled held =
    on_ok_both c.write_through.result
    (close_settled slots c.args.slot _ table x c.place_of.ensures held _ _ settled)
    c.write_through.ensures.writes.durable c.write_through.ensures.reads

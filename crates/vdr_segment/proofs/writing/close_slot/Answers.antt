use Rattle.std.proofs.Common.{arith}
use Rattle.vdr_terms.proofs.Results.{on_ok_both}
use Rattle.vdr_segment.proofs.Fronts.{front_through}
use Rattle.vdr_segment.proofs.Writes.{close_moments, close_settled}
use Rattle.vdr_segment.proofs.writing.close_slot.Goals as goal

pub returns-clause-moments : goal.returns-clause-moments
returns-clause-moments g c slots settled not_closed =
    close_moments c.args.area.segment c.args.slot _ slots c.place_of.ensures (omega (arith, c.args.area.segment_low)) _ _ _ settled not_closed c.write_synced.ensures.moments

pub returns-clause-settled : goal.returns-clause-settled
returns-clause-settled g c slots settled =
    on_ok_both c.write_synced.result
    (close_settled c.args.area.segment c.args.slot _ slots c.place_of.ensures (omega (arith, c.args.area.segment_low)) _ _ _ settled)
    c.write_synced.ensures.writes.durable c.write_synced.ensures.reads

pub returns-clause-front : goal.returns-clause-front
returns-clause-front g c = record {
  meanwhile = λ durable. front_through _ _ _ _ _ (omega (arith, c.place_of.ensures)) durable c.write_synced.ensures.moments;
  reads = c.write_synced.ensures.front_reads;
}

use Rattle.std.proofs.Common.{ℕ, ◌+◌, ap, arith}
use Rattle.vdr_terms.proofs.Results.{on_ok_both}
use Rattle.vdr_segment.proofs.Fronts.{front_joined, front_then, front_through}
use Rattle.vdr_segment.proofs.Summaries.{written_moments, summary_moments, summary_settled}
use Rattle.vdr_segment.proofs.writing.summarize.Goals as goal

pub returns-in_err-write_synced-clause-moments : goal.returns-in_err-write_synced-clause-moments
returns-in_err-write_synced-clause-moments g c slots s settled held none =
    written_moments c.args.area.segment c.args.slot _ slots s c.args.summary _ (ap (λ (n : ℕ). n + 17) c.place_of.ensures) (omega (arith, c.args.area.segment_low)) held none c.bytes_of.ensures.bytes c.bytes_of.ensures.fits _ _ _ settled c.write_synced.ensures.moments

pub returns-clause-moments : goal.returns-clause-moments
returns-clause-moments g c slots s settled held none =
    summary_moments c.args.area.segment c.args.slot _ slots s c.args.summary _ (ap (λ (n : ℕ). n + 17) c.place_of.ensures) (omega (arith, c.args.area.segment_low)) held none c.bytes_of.ensures.bytes c.bytes_of.ensures.fits _ _ _ settled c.write_synced.ensures.moments
    c.in_ok-write_synced.ensures.writes.durable c.in_ok-write_synced.ensures.reads _ c.write_synced-2.ensures.moments

pub returns-clause-settled : goal.returns-clause-settled
returns-clause-settled g c slots s settled held none =
    on_ok_both c.write_synced-2.result
    (summary_settled c.args.area.segment c.args.slot _ slots s c.args.summary _ (ap (λ (n : ℕ). n + 17) c.place_of.ensures) (omega (arith, c.args.area.segment_low)) held none c.bytes_of.ensures.bytes c.bytes_of.ensures.fits _ _ _ settled c.write_synced.ensures.moments c.in_ok-write_synced.ensures.writes.durable c.in_ok-write_synced.ensures.reads _)
    c.write_synced-2.ensures.writes.durable c.write_synced-2.ensures.reads

pub returns-in_err-write_synced-clause-front : goal.returns-in_err-write_synced-clause-front
returns-in_err-write_synced-clause-front g c = record {
  meanwhile = λ durable. front_through _ _ _ _ _ (omega (arith, c.place_of.ensures)) durable c.write_synced.ensures.moments;
  reads = c.write_synced.ensures.front_reads;
}

pub returns-clause-front : goal.returns-clause-front
returns-clause-front g c = record {
  meanwhile = λ durable.
      front_then _ _ _ _ (front_through _ _ _ _ _ (omega (arith, c.place_of.ensures)) durable c.write_synced.ensures.moments) c.write_synced.ensures.front_reads
      (front_through _ _ _ _ _ (omega (arith, c.place_of.ensures)) c.in_ok-write_synced.ensures.writes.durable c.write_synced-2.ensures.moments);
  reads = λ told. front_joined _ _ _ (c.write_synced.ensures.front_reads told) (c.write_synced-2.ensures.front_reads told);
}

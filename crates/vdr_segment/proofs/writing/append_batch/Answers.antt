use Rattle.std.proofs.Common.{ℕ, ◌+◌, refl, ap, arith}
use Rattle.std.proofs.lemmas.List.{take_rest}
use Rattle.vdr_terms.proofs.Results.{on_ok_both}
use Rattle.vdr_segment.proofs.Fronts.{front_joined, front_then, front_through}
use Rattle.vdr_segment.proofs.Opening.{batch_moments, append_moments, append_settled}
use Rattle.vdr_segment.proofs.writing.append_batch.Goals as goal

pub returns-in_err-write_synced-clause-moments : goal.returns-in_err-write_synced-clause-moments
returns-in_err-write_synced-clause-moments g c slots s records settled held ends is legal =
    batch_moments c.args.area.segment c.args.slot c.args.at _ slots s records c.args.batch.now (ap (λ (n : ℕ). n + c.args.at) c.place_of.ensures) c.requires.fits c.requires.some held
    ends is legal _ (take_rest c.args.batch.now 1) _ _ _ settled c.write_synced.ensures.moments

pub returns-clause-moments : goal.returns-clause-moments
returns-clause-moments g c slots s records settled held ends is legal =
    append_moments c.args.area.segment c.args.slot c.args.at _ slots s records c.args.batch.now (ap (λ (n : ℕ). n + c.args.at) c.place_of.ensures) c.requires.fits c.requires.some held
    ends is legal _ (take_rest c.args.batch.now 1) _ _ _ settled c.write_synced.ensures.moments
    _ refl c.in_ok-write_synced.ensures.writes.durable c.in_ok-write_synced.ensures.reads _ c.write_synced-2.ensures.moments

pub returns-clause-settled : goal.returns-clause-settled
returns-clause-settled g c slots s records settled held ends is legal =
    on_ok_both c.write_synced-2.result
    (append_settled c.args.area.segment c.args.slot c.args.at _ slots s records c.args.batch.now (ap (λ (n : ℕ). n + c.args.at) c.place_of.ensures) c.requires.fits c.requires.some held
    ends is legal _ (take_rest c.args.batch.now 1) _ _ _ settled c.write_synced.ensures.moments
    _ refl c.in_ok-write_synced.ensures.writes.durable c.in_ok-write_synced.ensures.reads _)
    c.write_synced-2.ensures.writes.durable c.write_synced-2.ensures.reads

pub returns-in_err-write_synced-clause-front : goal.returns-in_err-write_synced-clause-front
returns-in_err-write_synced-clause-front g c = record {
  meanwhile = λ durable. front_through _ _ _ _ _ (omega (arith, c.place_of.ensures)) durable c.write_synced.ensures.moments;
  reads = c.write_synced.ensures.front_reads;
}

pub returns-clause-front : goal.returns-clause-front
returns-clause-front g c = record {
  meanwhile = λ durable.
      front_then _ _ _ _ (front_through _ _ _ _ _ (omega (arith, c.place_of.ensures)) durable c.write_synced.ensures.moments) c.write_synced.ensures.front_reads
      (front_through _ _ _ _ _ (omega (arith, c.place_of.ensures)) c.in_ok-write_synced.ensures.writes.durable c.write_synced-2.ensures.moments);
  reads = λ told. front_joined _ _ _ (c.write_synced.ensures.front_reads told) (c.write_synced-2.ensures.front_reads told);
}

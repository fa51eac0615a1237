use Rattle.std.proofs.Common.{arith}
use Rattle.vdr_segment.proofs.BatchLemmas.{batch_put}
use Rattle.vdr_segment.proofs.batch.write_batch.Goals as goal

pub returns-clause-bytes : goal.returns-clause-bytes
returns-clause-bytes c =
    batch_put c.args.records.now _ _ _ _ _ _ _ c.requires.room (omega (arith, c.put_records-end.ensures.end)) c.put_records-end.ensures.end
    c.put_records-end.ensures.bytes c.put_u32.ensures c.put.ensures c.put-2.ensures

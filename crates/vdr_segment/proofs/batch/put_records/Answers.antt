use Rattle.vdr_segment.proofs.BatchLemmas.{written_none, room_for, written_more}
use Rattle.vdr_segment.proofs.batch.put_records.Goals as goal

pub loop-item-init : goal.loop-item-init
loop-item-init c = written_none _ _

pub put_at-end-requires : goal.put_at-end-requires
put_at-end-requires c = room_for _ _ _ _ _ c.args.records.now _ c.loop-item.invariant c.loop-item-test.true c.item-item.is c.requires

pub loop-item-preserved : goal.loop-item-preserved
loop-item-preserved c =
    written_more _ _ _ _ _ _ _ c.args.records.now _ c.loop-item.invariant c.loop-item-test.true c.item-item.is c.requires c.put_at-end.ensures.end c.put_at-end.ensures.bytes
    c.put_at-end.ensures.legal c.put_at-end.auto.into

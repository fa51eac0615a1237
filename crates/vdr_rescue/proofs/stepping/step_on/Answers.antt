use Rattle.vdr_segment.proofs.BatchListLemmas.{batch_open}
use Rattle.vdr_index.proofs.StepLemmas.{batch_stands, batch_has_more}
use Rattle.vdr_rescue.proofs.GivenLemmas.{on_into, legal_end}
use Rattle.vdr_rescue.proofs.stepping.step_on.Goals as goal

pub next_of_batch-requires-in-Batch-clause-stands : goal.next_of_batch-requires-in-Batch-clause-stands
next_of_batch-requires-in-Batch-clause-stands c = batch_stands c.args.segment.now c.args.position.to _ _ c.in-Batch.ensures

pub next_of_batch-requires-in-Batch-clause-more : goal.next_of_batch-requires-in-Batch-clause-more
next_of_batch-requires-in-Batch-clause-more c = batch_has_more c.args.segment.now c.args.position.to _ _ c.in-Batch.ensures

pub returns-in-Batch-clause-next : goal.returns-in-Batch-clause-next
returns-in-Batch-clause-next c =
    on_into c.args.segment.now c.args.position _ c.in-Batch.from c.in-Batch.to _ c.if-position.false c.requires.order c.in-Batch.ensures c.next_of_batch-in-Batch.ensures

pub returns-in-End-clause-none : goal.returns-in-End-clause-none
returns-in-End-clause-none c = legal_end c.args.segment.now c.args.position c.if-position.false (λ records batch. c.in-End.ensures (batch_open c.args.segment.now c.args.position.to records batch))

pub returns-in-Broken-clause-none : goal.returns-in-Broken-clause-none
returns-in-Broken-clause-none c = legal_end c.args.segment.now c.args.position c.if-position.false c.in-Broken.ensures.1

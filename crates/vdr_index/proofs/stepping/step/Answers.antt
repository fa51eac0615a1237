use Rattle.std.proofs.Common.{refl}
use Rattle.vdr_index.proofs.StepLemmas.{batch_stands, batch_has_more, step_into, end_ahead, none_ahead}
use Rattle.vdr_index.proofs.stepping.step.Goals as goal

pub next_of_batch-requires-in-Batch-clause-stands : goal.next_of_batch-requires-in-Batch-clause-stands
next_of_batch-requires-in-Batch-clause-stands c = batch_stands c.args.segment.now c.args.position.to _ _ c.in-Batch.ensures

pub next_of_batch-requires-in-Batch-clause-more : goal.next_of_batch-requires-in-Batch-clause-more
next_of_batch-requires-in-Batch-clause-more c = batch_has_more c.args.segment.now c.args.position.to _ _ c.in-Batch.ensures

pub returns-in-Batch-clause-next : goal.returns-in-Batch-clause-next
returns-in-Batch-clause-next c =
    step_into c.args.segment.now c.args.position _ c.in-Batch.from c.in-Batch.to _ c.if-position.false c.requires.order c.in-Batch.ensures c.next_of_batch-in-Batch.ensures

pub returns-in-End-clause-none : goal.returns-in-End-clause-none
returns-in-End-clause-none c = end_ahead c.args.segment.now c.args.position c.requires c.if-position.false c.in-End.ensures

pub returns-in-Broken-clause-broken : goal.returns-in-Broken-clause-broken
returns-in-Broken-clause-broken c = (refl, c.in-Broken.ensures, none_ahead c.args.segment.now c.args.position c.in-Broken.ensures)

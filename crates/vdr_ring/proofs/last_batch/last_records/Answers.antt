use Rattle.std.proofs.Common.{arith}
use Rattle.vdr_index.proofs.SpanLemmas.{front_closed, front_broken}
use Rattle.vdr_ring.proofs.LastBatch.{walked_none, walked_more}
use Rattle.vdr_ring.proofs.last_batch.last_records.Goals as goal

pub loop-from-init : goal.loop-from-init
loop-from-init c = walked_none c.args.segment.now c.requires

pub loop-from-smaller : goal.loop-from-smaller
loop-from-smaller c = let w = c.in-Batch.ensures in omega (arith, w.2, w.3, c.loop-from.invariant.front.inside)

pub loop-from-preserved : goal.loop-from-preserved
loop-from-preserved c = walked_more _ c.loop-from.end _ _ _ c.loop-from.invariant c.in-Batch.ensures

pub returns-in-End-clause-legal : goal.returns-in-End-clause-legal
returns-in-End-clause-legal c = let w = c.loop-from.invariant in (w.batches, front_closed _ _ w.batches w.front c.in-End.ensures, w.newest)

pub returns-in-Broken-clause-broken : goal.returns-in-Broken-clause-broken
returns-in-Broken-clause-broken c = let w = c.loop-from.invariant in front_broken _ _ w.batches w.front c.in-Broken.ensures

pub returns-in-End-clause-fits : goal.returns-in-End-clause-fits
returns-in-End-clause-fits c = c.loop-from.invariant.fits

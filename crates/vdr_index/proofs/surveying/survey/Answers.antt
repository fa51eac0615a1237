use Rattle.vdr_index.proofs.SpanLemmas.{front_closed, front_broken}
use Rattle.vdr_index.proofs.WalkLemmas.{reached_none, met_some, met_records, reached_more, reached_further}
use Rattle.vdr_index.proofs.surveying.survey.Goals as goal

pub loop-from-init : goal.loop-from-init
loop-from-init c = reached_none _ _ c.empty-found.result c.requires (c.empty-found.ensures.survey c.args.first)

pub stretch_in-requires-clause-some : goal.stretch_in-requires-clause-some
stretch_in-requires-clause-some c = met_some _ c.loop-from.found.end _ _ c.in-Batch.ensures

pub stretch_in-requires-clause-legal : goal.stretch_in-requires-clause-legal
stretch_in-requires-clause-legal c = met_records _ c.loop-from.found.end _ _ c.in-Batch.ensures

pub loop-from-smaller : goal.loop-from-smaller
loop-from-smaller c = reached_further _ _ c.loop-from.found c.joined-found.result _ _ _ c.loop-from.invariant c.in-Batch.ensures c.stretch_in.ensures c.joined-found.ensures.survey

pub loop-from-preserved : goal.loop-from-preserved
loop-from-preserved c = reached_more _ _ c.loop-from.found c.joined-found.result _ _ _ c.loop-from.invariant c.in-Batch.ensures c.stretch_in.ensures c.joined-found.ensures.survey

pub returns-in-End-clause-legal : goal.returns-in-End-clause-legal
returns-in-End-clause-legal c = let r = c.loop-from.invariant in (r.batches, front_closed _ _ r.batches r.front c.in-End.ensures, r.survey)

pub returns-in-End-clause-inside : goal.returns-in-End-clause-inside
returns-in-End-clause-inside c = c.loop-from.invariant.front.inside

pub returns-in-Broken-clause-broken : goal.returns-in-Broken-clause-broken
returns-in-Broken-clause-broken c = let r = c.loop-from.invariant in front_broken _ _ r.batches r.front c.in-Broken.ensures

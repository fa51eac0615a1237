use Rattle.std.proofs.lemmas.Bool.{both_ways}
use Rattle.vdr_index.proofs.WalkLemmas.{met_some, met_records, reached_further}
use Rattle.vdr_index.proofs.AuditLemmas.{agrees, audited_more, audited_none, differs_batch, differs_broken, differs_few, reached}
use Rattle.vdr_index.proofs.auditing.audit.Goals as goal

pub loop-from-init : goal.loop-from-init
loop-from-init c = audited_none _ _ c.args.summary.now c.empty-found.result c.requires (c.empty-found.ensures.survey c.args.first)

pub stretch_in-requires-clause-some : goal.stretch_in-requires-clause-some
stretch_in-requires-clause-some c = met_some _ c.loop-from.found.end _ _ c.in-Batch.ensures

pub stretch_in-requires-clause-legal : goal.stretch_in-requires-clause-legal
stretch_in-requires-clause-legal c = met_records _ c.loop-from.found.end _ _ c.in-Batch.ensures

pub returns-then-not-are_within-clause-differs : goal.returns-then-not-are_within-clause-differs
returns-then-not-are_within-clause-differs c =
    differs_batch _ _ c.args.summary.now c.loop-from.found c.joined-next.result _ _ _ c.loop-from.invariant c.in-Batch.ensures c.stretch_in.ensures c.joined-next.ensures.survey
    (λ bs v within. both_ways _ c.if-not-are_within.true ((c.are_within.ensures bs v).1 within))

pub loop-from-smaller : goal.loop-from-smaller
loop-from-smaller c =
    reached_further _ _ c.loop-from.found c.joined-next.result _ _ _ (reached _ _ c.args.summary.now c.loop-from.found c.loop-from.invariant) c.in-Batch.ensures c.stretch_in.ensures c.joined-next.ensures.survey

pub loop-from-preserved : goal.loop-from-preserved
loop-from-preserved c =
    audited_more _ _ c.args.summary.now c.loop-from.found c.joined-next.result _ _ _ c.loop-from.invariant c.in-Batch.ensures c.stretch_in.ensures c.joined-next.ensures.survey
    (λ bs v. (c.are_within.ensures bs v).0 c.if-not-are_within.false)

pub returns-then-has_at_least-clause-agrees : goal.returns-then-has_at_least-clause-agrees
returns-then-has_at_least-clause-agrees c =
    let a = c.loop-from.invariant in agrees _ _ c.args.summary.now c.loop-from.found a c.in-End.ensures ((c.has_at_least.ensures a.batches a.survey a.within.places).0 c.if-has_at_least.true)

pub returns-in-End-clause-differs : goal.returns-in-End-clause-differs
returns-in-End-clause-differs c =
    let a = c.loop-from.invariant in
    differs_few _ _ c.args.summary.now c.loop-from.found a c.in-End.ensures (λ enough. both_ways _ c.if-has_at_least.false ((c.has_at_least.ensures a.batches a.survey a.within.places).1 enough))

pub returns-in-Broken-clause-differs : goal.returns-in-Broken-clause-differs
returns-in-Broken-clause-differs c = differs_broken _ _ c.args.summary.now c.loop-from.found c.loop-from.invariant c.in-Broken.ensures

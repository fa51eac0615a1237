use Rattle.std.proofs.Common.{rules, ◌<◌, Option, None, length, get_or, ◌∙◌, subst, arith}
use Rattle.std.proofs.lemmas.List.{get_or_read, get_or-set_other, get_or_past, length-set}
use Rattle.vdr_terms.specs.Records.{none_missed}
use Rattle.vdr_intake.specs.Ends.{QueueId}
use Rattle.vdr_capture.specs.declared.lane.Lane.{Lane}
use Rattle.vdr_desk.proofs.Lists.{no_default, at_each}
use Rattle.vdr_session.specs.Feeding.{RestIs}
use Rattle.vdr_session.proofs.summing.rest_of.Goals as goal

pub loop-group-preserved : goal.loop-group-preserved
loop-group-preserved g c =
    let i = c.loop-group.invariant in
    let n = c.loop-group.group in
    let low = c.loop-group-test.true in
    let few : n < length c.loop-group.rest = omega (arith, i.2, low) in
    let q = no_default c.args.queues.now n c.index-queues-group.result None (omega (arith, c.type_inv.queues, low)) in
    let here : (d : Lane g.row.P.Denot) → RestIs (get_or c.args.queues.now n None) (get_or c.args.lanes.now n d) c.missed.result = λ d.
    subst (λ (o : Option QueueId). RestIs o (get_or c.args.lanes.now n d) c.missed.result) q
    (subst (λ (l : Lane g.row.P.Denot). RestIs (get_or c.args.queues.now n c.index-queues-group.result) l c.missed.result) (get_or_read c.args.lanes.now n c.index-lanes-group.result (omega (arith, c.requires.sixteen, low)) c.index-lanes-group.is d) c.missed.ensures) in (
      (λ k d small. at_each c.loop-group.rest n c.missed.result few (λ k r. RestIs (get_or c.args.queues.now k None) (get_or c.args.lanes.now k d) r) none_missed (here d) k (λ ne. i.0 k d (omega (arith, small, ne)))),
      (λ k high. get_or-set_other c.loop-group.rest n k c.missed.result none_missed (λ e. omega (arith, e, high)) ∙ i.1 k (omega (arith, high))),
      length-set c.loop-group.rest n c.missed.result ∙ i.2,
    )

pub returns : goal.returns
returns g c = record {
  each = λ k d small. c.loop-group.invariant.0 k d (search rules);
  beyond = λ k high. get_or_past c.loop-group.rest k none_missed (let l = c.loop-group.invariant.2 in omega (arith, l, high));
}

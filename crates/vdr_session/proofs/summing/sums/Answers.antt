use Rattle.std.proofs.Common.{◌≡◌, ◌<◌, Option, Some, None, is_some, true, length, get_or, ap, ◌∙◌, arith}
use Rattle.std.proofs.lemmas.List.{get_or_read, get_or-set_other, length-set}
use Rattle.vdr_intake.specs.Ends.{QueueId}
use Rattle.vdr_capture.specs.declared.lane.Lane.{Lane}
use Rattle.vdr_desk.proofs.Lists.{no_default, at_each}
use Rattle.vdr_session.specs.Summing.{summed}
use Rattle.vdr_session.proofs.summing.sums.Goals as goal

pub loop-group-preserved : goal.loop-group-preserved
loop-group-preserved g c =
    let i = c.loop-group.invariant in
    let n = c.loop-group.group in
    let low = c.loop-group-test.true in
    let few : n < length c.loop-group.sums = omega (arith, i.3, low) in
    let q : get_or c.args.queues.now n c.index-queues-group.result ≡ get_or c.args.queues.now n None = no_default c.args.queues.now n c.index-queues-group.result None (omega (arith, c.type_inv.queues, low)) in
    let l : (d : Lane g.row.P.Denot) → c.index-lanes-group.result ≡ get_or c.args.lanes.now n d = λ d. get_or_read c.args.lanes.now n c.index-lanes-group.result (omega (arith, c.requires.sixteen, low)) c.index-lanes-group.is d in (
      (λ k small. at_each c.loop-group.sums n c.sums_of.result few (λ k s. is_some s ≡ is_some (get_or c.args.queues.now k None)) None (c.sums_of.ensures.some ∙ ap (λ (o : Option QueueId). is_some o) q) k
          (λ ne. i.0 k (omega (arith, small, ne)))),
      (λ start popped counts k d small. at_each c.loop-group.sums n c.sums_of.result few (λ k s. is_some (get_or c.args.queues.now k None) ≡ true → s ≡ Some (summed start popped (get_or c.args.lanes.now k d).tally k)) None
          (λ there. c.sums_of.ensures.sums start popped counts (ap (λ (o : Option QueueId). is_some o) q ∙ there) ∙ ap (λ (l : Lane g.row.P.Denot). Some (summed start popped l.tally n)) (l d)) k
          (λ ne. i.1 start popped counts k d (omega (arith, small, ne)))),
      (λ k high. get_or-set_other c.loop-group.sums n k c.sums_of.result None (λ e. omega (arith, e, high)) ∙ i.2 k (omega (arith, high))),
      length-set c.loop-group.sums n c.sums_of.result ∙ i.3,
    )

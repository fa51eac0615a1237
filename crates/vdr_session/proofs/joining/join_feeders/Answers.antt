use Rattle.std.proofs.Common.{◌≡◌, ◌<◌, length, get_or, Option, None, ap, ◌∙◌, subst, arith}
use Rattle.std.proofs.lemmas.List.{get_or-set_other, length-set}
use Rattle.vdr_capture.specs.declared.lane.Lane.{Lane}
use Rattle.vdr_intake.specs.Ends.{Feeding, QueueId, Taking}
use Rattle.vdr_desk.proofs.Lists.{no_default, at_each}
use Rattle.vdr_session.specs.Joins.{Joins}
use Rattle.vdr_session.proofs.joining.join_feeders.Goals as goal

pub loop-group-preserved : goal.loop-group-preserved
loop-group-preserved g c =
    let i = c.loop-group.invariant in
    let n = c.loop-group.group in
    let low = c.loop-group-test.true in
    let lanes = c.loop-group.lanes in
    let takers = c.loop-group.takers in
    let few : n < length lanes = omega (arith, i.4, low) in
    let some : n < length takers = omega (arith, i.5, low) in
    let none : c.take-feeder.new.self ≡ None = c.take-feeder.ensures.after in
    let new : Lane g.row.P.Denot = record (get_or lanes n c.index-lanes-group.result) { feeder = c.take-feeder.new.self } in
    let was : (d : Lane g.row.P.Denot) → get_or lanes n c.index-lanes-group.result ≡ get_or c.args.lanes.now n d = λ d. no_default lanes n c.index-lanes-group.result d few ∙ i.1 n d (omega arith) in
    let taker = c.join_one.new.taker in
    let q = no_default c.args.queues.now n c.index-queues-group.result None (omega (arith, c.type_inv.queues, low)) in
    let t = no_default takers n c.index-takers-group.result None some ∙ i.3 n (omega arith) in
    let f : (d : Lane g.row.P.Denot) → c.take-feeder.result ≡ (get_or c.args.lanes.now n d).feeder = λ d. c.take-feeder.ensures.value ∙ ap (λ (l : Lane g.row.P.Denot). l.feeder) (was d) in
    let joins : (d : Lane g.row.P.Denot) → Joins (get_or c.args.queues.now n None) (get_or c.args.takers.now n None) taker (get_or c.args.lanes.now n d).feeder = λ d.
    subst (λ (o : Option QueueId). Joins o (get_or c.args.takers.now n None) taker (get_or c.args.lanes.now n d).feeder) q
    (subst (λ (o : Option Taking). Joins (get_or c.args.queues.now n c.index-queues-group.result) o taker (get_or c.args.lanes.now n d).feeder) t
    (subst (λ (o : Option Feeding). Joins (get_or c.args.queues.now n c.index-queues-group.result) (get_or takers n c.index-takers-group.result) taker o) (f d) c.join_one.ensures)) in (
      (λ k d small. at_each lanes n new few (λ k l. l ≡ record (get_or c.args.lanes.now k d) { feeder = None }) d (λ j. record (was d j) { feeder = none j }) k (λ ne. i.0 k d (omega (arith, small, ne)))),
      (λ k d high. get_or-set_other lanes n k new d (λ e. omega (arith, e, high)) ∙ i.1 k d (omega (arith, high))),
      (λ k d small. at_each takers n taker some (λ k o. Joins (get_or c.args.queues.now k None) (get_or c.args.takers.now k None) o (get_or c.args.lanes.now k d).feeder) None (joins d) k (λ ne. i.2 k d (omega (arith, small, ne)))),
      (λ k high. get_or-set_other takers n k taker None (λ e. omega (arith, e, high)) ∙ i.3 k (omega (arith, high))),
      length-set lanes n new ∙ i.4,
      length-set takers n taker ∙ i.5,
    )

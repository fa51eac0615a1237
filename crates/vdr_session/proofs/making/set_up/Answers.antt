use Rattle.std.proofs.Common.{◌≡◌, ◌<◌, false, length, get_or, ap, ◌∙◌, subst, arith}
use Rattle.std.proofs.lemmas.List.{get_or-set_other, length-set}
use Rattle.vdr_capture.specs.declared.lane.Lane.{Lane}
use Rattle.vdr_desk.proofs.Lists.{no_default, at_each}
use Rattle.vdr_session.specs.Ran.{IsSetUp}
use Rattle.vdr_session.proofs.LanesRan.{set_up_each}
use Rattle.vdr_session.proofs.making.set_up.Goals as goal

pub loop-group-preserved : goal.loop-group-preserved
loop-group-preserved g c =
    let i = c.loop-group.invariant in
    let n = c.loop-group.group in
    let low = c.loop-group-test.true in
    let lanes = c.loop-group.lanes in
    let more : n < length lanes = omega (arith, i.2, low) in
    let few : n < length c.loop-group.queues = omega (arith, i.3, low) in
    let some : n < length c.loop-group.takers = omega (arith, i.4, low) in
    let was : (d : Lane g.row.P.Denot) → get_or lanes n c.index-lanes-group.result ≡ get_or c.args.lanes.now n d = λ d. no_default lanes n c.index-lanes-group.result d more ∙ i.1 n d (omega arith) in
    let here : (d : Lane g.row.P.Denot) → IsSetUp (get_or c.args.configured.now n false) n c.args.capacity c.set_up_one.new.queue c.set_up_one.new.taker (get_or c.args.lanes.now n d) c.set_up_one.new.lane = λ d.
    subst (λ (l : Lane g.row.P.Denot). IsSetUp (get_or c.args.configured.now n false) n c.args.capacity c.set_up_one.new.queue c.set_up_one.new.taker l c.set_up_one.new.lane) (was d) c.in_ok-set_up_one.ensures.set_up in (
      (λ k d small. set_up_each c.args.configured.now c.args.capacity n c.loop-group.queues c.loop-group.takers lanes c.args.lanes.now c.set_up_one.new.queue c.set_up_one.new.taker c.set_up_one.new.lane d
          few some more (here d) k (λ ne. i.0 k d (omega (arith, small, ne)))),
      (λ k d high. get_or-set_other lanes n k c.set_up_one.new.lane d (λ e. omega (arith, e, high)) ∙ i.1 k d (omega (arith, high))),
      length-set lanes n c.set_up_one.new.lane ∙ i.2,
      length-set c.loop-group.queues n c.set_up_one.new.queue ∙ i.3,
      length-set c.loop-group.takers n c.set_up_one.new.taker ∙ i.4,
      (λ k d. at_each lanes n c.set_up_one.new.lane more (λ k l. l.port ≡ (get_or c.args.lanes.now k d).port) d
          (c.set_up_one.ensures.same.0 ∙ ap (λ (l : Lane g.row.P.Denot). l.port) (was d)) k (λ ne. i.5 k d)),
    )

pub returns-in_err-set_up_one-clause-same : goal.returns-in_err-set_up_one-clause-same
returns-in_err-set_up_one-clause-same g c = λ k d small.
    let i = c.loop-group.invariant in
    let n = c.loop-group.group in
    let low = c.loop-group-test.true in
    let lanes = c.loop-group.lanes in
    let more : n < length lanes = omega (arith, i.2, low) in
    let was : (d : Lane g.row.P.Denot) → get_or lanes n c.index-lanes-group.result ≡ get_or c.args.lanes.now n d = λ d. no_default lanes n c.index-lanes-group.result d more ∙ i.1 n d (omega arith) in
    at_each lanes n c.set_up_one.new.lane more (λ k l. l.port ≡ (get_or c.args.lanes.now k d).port) d
    (c.set_up_one.ensures.same.0 ∙ ap (λ (l : Lane g.row.P.Denot). l.port) (was d)) k (λ ne. i.5 k d)

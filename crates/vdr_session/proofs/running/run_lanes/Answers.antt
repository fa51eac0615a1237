use Rattle.std.proofs.Common.{rules, ◌≡◌, ◌++◌, List, Bool, true, false, true≢false, None, get_or, arith, refl, sym, ap, ◌∙◌, subst, append-nil}
use Rattle.vdr_core.specs.Taken.{Captured as CapturedTold}
use Rattle.vdr_capture.specs.declared.lane.Lane.{Lane}
use Rattle.vdr_session.specs.Lanes.{ArePopped}
use Rattle.vdr_session.specs.Marks.{has_fault, taken_in}
use Rattle.vdr_session.proofs.LanesRan.{first_of, joins_joined, joins_met, joins_popped, may_join, none_popped, popped_stays, ran, ready_met, ready_popped}
use Rattle.vdr_desk.specs.Answers.{IsBegun}
use Rattle.vdr_session.proofs.Served.{served_on}
use Rattle.vdr_session.proofs.running.run_lanes.Goals as goal

pub record_and_serve-works-requires-clause-met : goal.record_and_serve-works-requires-clause-met
record_and_serve-works-requires-clause-met g c κs within k small =
    let d : Lane g.row.P.Denot = first_of c.args.lanes.now (omega (arith, c.requires.sixteen)) in
    ready_met g.T.Records.configured k (get_or c.args.queues.now k None) (get_or c.args.takers.now k None) (get_or c.args.lanes.now k d) (c.requires.ready k d small)

pub record_and_serve-works-requires-clause-popped : goal.record_and_serve-works-requires-clause-popped
record_and_serve-works-requires-clause-popped g c κs within =
    let d : Lane g.row.P.Denot = first_of c.args.lanes.now (omega (arith, c.requires.sixteen)) in
    none_popped (taken_in c.args.pass.now.own) c.args.takers.now c.requires.leads.2
    (λ k small. ready_popped g.T.Records.configured k (get_or c.args.queues.now k None) (get_or c.args.takers.now k None) (get_or c.args.lanes.now k d) (c.requires.ready k d small))

pub join_feeders-requires-clause-may : goal.join_feeders-requires-clause-may
join_feeders-requires-clause-may g c k d small =
    may_join g.T.Records.configured k g.P.Port c.args.turns (get_or c.args.queues.now k None) (get_or c.args.takers.now k None) (get_or c.record_and_serve-works.new.takers k None)
    (get_or c.args.lanes.now k d) (get_or c.record_and_serve-works.new.lanes k d) (c.requires.ready k d small)
    (c.record_and_serve-works.ensures.captured k d (omega (arith, c.requires.sixteen, small))) (c.record_and_serve-works.ensures.met k small)

pub returns-then-not-works-clause-lanes : goal.returns-then-not-works-clause-lanes
returns-then-not-works-clause-lanes g c k d small =
    let configured = g.T.Records.configured in
    let queue = get_or c.args.queues.now k None in
    let before = get_or c.record_and_serve-works.new.takers k None in
    let taker = get_or c.join_feeders.new.takers k None in
    let captured = get_or c.record_and_serve-works.new.lanes k d in
    let held = c.record_and_serve-works.ensures.captured k d (omega (arith, c.requires.sixteen, small)) in
    let met = c.record_and_serve-works.ensures.met k small in
    let may = may_join configured k g.P.Port c.args.turns queue (get_or c.args.takers.now k None) before (get_or c.args.lanes.now k d) captured (c.requires.ready k d small) held met in
    let joins = c.join_feeders.ensures.joined k d small in
    ran configured k g.P.Port c.args.turns queue (get_or c.args.takers.now k None) taker (get_or c.args.lanes.now k d) captured (get_or c.join_feeders.new.lanes k d) (c.requires.ready k d small) held
    (c.join_feeders.ensures.lanes k d small) (joins_met configured k queue before taker captured.feeder met may joins) (joins_joined configured k queue before taker captured.feeder may joins)

pub returns-then-not-works-clause-popped : goal.returns-then-not-works-clause-popped
returns-then-not-works-clause-popped g c =
    let d : Lane g.row.P.Denot = first_of c.args.lanes.now (omega (arith, c.requires.sixteen)) in
    let popped = c.record_and_serve-works.ensures.popped in (
      popped.0,
      popped_stays (taken_in c.record_and_serve-works.new.pass.own ++ popped.0) c.record_and_serve-works.new.takers c.join_feeders.new.takers
          (λ k small.
          let queue = get_or c.args.queues.now k None in
          let before = get_or c.record_and_serve-works.new.takers k None in
          let captured = get_or c.record_and_serve-works.new.lanes k d in
          let held = c.record_and_serve-works.ensures.captured k d (omega (arith, c.requires.sixteen, small)) in
          let met = c.record_and_serve-works.ensures.met k small in
          let may = may_join g.T.Records.configured k g.P.Port c.args.turns queue (get_or c.args.takers.now k None) before (get_or c.args.lanes.now k d) captured (c.requires.ready k d small) held met in
          joins_popped g.T.Records.configured k queue before (get_or c.join_feeders.new.takers k None) captured.feeder may (c.join_feeders.ensures.joined k d small)) popped.1,
      (λ e. absurd (true≢false (sym (c.record_and_serve-works.ensures.fails (search rules)) ∙ e))),
    )

pub record_queued-requires-clause-met : goal.record_queued-requires-clause-met
record_queued-requires-clause-met g c k small =
    let d : Lane g.row.P.Denot = first_of c.args.lanes.now (omega (arith, c.requires.sixteen)) in
    let queue = get_or c.args.queues.now k None in
    let before = get_or c.record_and_serve-works.new.takers k None in
    let captured = get_or c.record_and_serve-works.new.lanes k d in
    let held = c.record_and_serve-works.ensures.captured k d (omega (arith, c.requires.sixteen, small)) in
    let met = c.record_and_serve-works.ensures.met k small in
    let may = may_join g.T.Records.configured k g.P.Port c.args.turns queue (get_or c.args.takers.now k None) before (get_or c.args.lanes.now k d) captured (c.requires.ready k d small) held met in
    joins_met g.T.Records.configured k queue before (get_or c.join_feeders.new.takers k None) captured.feeder met may (c.join_feeders.ensures.joined k d small)

pub record_queued-requires-clause-popped : goal.record_queued-requires-clause-popped
record_queued-requires-clause-popped g c =
    let d : Lane g.row.P.Denot = first_of c.args.lanes.now (omega (arith, c.requires.sixteen)) in
    let popped = c.record_and_serve-works.ensures.popped in
    let works : c.record_and_serve-works.result ≡ true = search rules in
    let all : ArePopped (taken_in c.record_and_serve-works.new.pass.own) c.record_and_serve-works.new.takers =
    subst (λ (xs : List CapturedTold). ArePopped xs c.record_and_serve-works.new.takers) (ap (λ (xs : List CapturedTold). taken_in c.record_and_serve-works.new.pass.own ++ xs) (popped.2 works) ∙ append-nil (taken_in c.record_and_serve-works.new.pass.own)) popped.1 in
    popped_stays (taken_in c.record_and_serve-works.new.pass.own) c.record_and_serve-works.new.takers c.join_feeders.new.takers
    (λ k small.
    let queue = get_or c.args.queues.now k None in
    let before = get_or c.record_and_serve-works.new.takers k None in
    let captured = get_or c.record_and_serve-works.new.lanes k d in
    let held = c.record_and_serve-works.ensures.captured k d (omega (arith, c.requires.sixteen, small)) in
    let met = c.record_and_serve-works.ensures.met k small in
    let may = may_join g.T.Records.configured k g.P.Port c.args.turns queue (get_or c.args.takers.now k None) before (get_or c.args.lanes.now k d) captured (c.requires.ready k d small) held met in
    joins_popped g.T.Records.configured k queue before (get_or c.join_feeders.new.takers k None) captured.feeder may (c.join_feeders.ensures.joined k d small)) all

pub returns-clause-lanes : goal.returns-clause-lanes
returns-clause-lanes g c k d small =
    let configured = g.T.Records.configured in
    let queue = get_or c.args.queues.now k None in
    let before = get_or c.record_and_serve-works.new.takers k None in
    let joined = get_or c.join_feeders.new.takers k None in
    let captured = get_or c.record_and_serve-works.new.lanes k d in
    let held = c.record_and_serve-works.ensures.captured k d (omega (arith, c.requires.sixteen, small)) in
    let met = c.record_and_serve-works.ensures.met k small in
    let may = may_join configured k g.P.Port c.args.turns queue (get_or c.args.takers.now k None) before (get_or c.args.lanes.now k d) captured (c.requires.ready k d small) held met in
    let joins = c.join_feeders.ensures.joined k d small in
    ran configured k g.P.Port c.args.turns queue (get_or c.args.takers.now k None) (get_or c.record_queued.new.takers k None) (get_or c.args.lanes.now k d) captured (get_or c.join_feeders.new.lanes k d) (c.requires.ready k d small) held
    (c.join_feeders.ensures.lanes k d small) (c.record_queued.ensures.met k small) (c.record_queued.ensures.joined k small ∙ joins_joined configured k queue before joined captured.feeder may joins)

-- what holds where the loop found the media working holds where no turn met a fault
if_no_fault : (works fault : Bool) {P : Type 0} → (works ≡ false → fault ≡ true) → (works ≡ true → P) → fault ≡ false → P
if_no_fault true fault fails good none = good refl
if_no_fault false fault fails good none = absurd (true≢false (sym (fails refl) ∙ none))

pub returns-clause-popped : goal.returns-clause-popped
returns-clause-popped g c =
    let e = c.record_queued.ensures in
    (e.popped.0, e.popped.1, if_no_fault c.record_queued.result (has_fault c.record_queued.new.pass.seen) e.fails e.popped.2)

pub returns-clause-drained : goal.returns-clause-drained
returns-clause-drained g c =
    let e = c.record_queued.ensures in
    if_no_fault c.record_queued.result (has_fault c.record_queued.new.pass.seen) e.fails e.drained

pub returns-then-not-works-clause-met : goal.returns-then-not-works-clause-met
returns-then-not-works-clause-met g c k small =
    let d : Lane g.row.P.Denot = first_of c.args.lanes.now (omega (arith, c.requires.sixteen)) in
    let queue = get_or c.args.queues.now k None in
    let before = get_or c.record_and_serve-works.new.takers k None in
    let captured = get_or c.record_and_serve-works.new.lanes k d in
    let held = c.record_and_serve-works.ensures.captured k d (omega (arith, c.requires.sixteen, small)) in
    let met = c.record_and_serve-works.ensures.met k small in
    let may = may_join g.T.Records.configured k g.P.Port c.args.turns queue (get_or c.args.takers.now k None) before (get_or c.args.lanes.now k d) captured (c.requires.ready k d small) held met in
    joins_met g.T.Records.configured k queue before (get_or c.join_feeders.new.takers k None) captured.feeder met may (c.join_feeders.ensures.joined k d small)

pub returns-clause-desks : goal.returns-clause-desks
returns-clause-desks g c i d low =
    let s = c.record_and_serve-works.ensures.desks i d low in (
      served_on (g.T.Answers.answers i) (IsBegun (g.T.Answers.waits i)) g.L.Link c.args.turns c.record_and_serve-works.new.pass.seen c.record_queued.new.pass.seen (get_or c.args.desks.now i d) (get_or c.record_and_serve-works.new.desks i d) c.record_queued.ensures.seen s.0,
      s.1,
    )

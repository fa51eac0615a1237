use Rattle.std.proofs.Common.{rules, ◌≡◌, ◌++◌, List, [], true, false, refl, sym, ap, ◌∙◌, subst, append_assoc, append-nil, arith}
use Rattle.vdr_core.specs.Taken.{Captured as CapturedTold}
use Rattle.vdr_run.specs.Charges.{Foretells}
use Rattle.vdr_run.specs.declared.charges.Charges.{Charges}
use Rattle.vdr_session.specs.Heads.{AreHeld}
use Rattle.vdr_session.specs.Lanes.{ArePopped}
use Rattle.vdr_session.specs.Marks.{MayTake, taken_in}
use Rattle.vdr_session.proofs.Faults.{fault_last, none_is}
use Rattle.vdr_session.proofs.Seen.{prefix_turn}
use Rattle.vdr_session.proofs.Marked.{batch_taken, batch_whole, begun_after, begun_same, taken_same}
use Rattle.vdr_session.proofs.Holding.{all_taken, held_below, let_go, none_held}
use Rattle.vdr_session.proofs.HeldRuns.{known_held, runs_held}
use Rattle.vdr_session.proofs.recording_loop.record_queued.Goals as goal

pub loop-init : goal.loop-init
loop-init g c = (
  (refl, refl, c.requires.leads.0, c.requires.leads.1),
  c.requires.met,
  none_held (taken_in c.args.pass.now.own) c.none-heads.result c.args.takers.now c.none-heads.ensures c.requires.popped,
  (λ k small. refl),
  c.requires.room.2,
  c.requires.empty,
  search rules,
  search rules,
  c.requires.foretells,
)

pub returns-then-last-clause-popped : goal.returns-then-last-clause-popped
returns-then-last-clause-popped g c =
    let i = c.loop.invariant in
    let p = c.hold_all.ensures in
    let none = p.none (search rules) in
    let held = p.held (taken_in c.loop.pass.own) i.2 in
    ([], subst (λ (xs : List CapturedTold). ArePopped xs c.hold_all.new.takers) (sym (append-nil (taken_in c.loop.pass.own))) (all_taken (taken_in c.loop.pass.own) c.hold_all.new.heads c.hold_all.new.takers none.0 held), (λ _. refl))

pub loop-preserved-then-hold_all : goal.loop-preserved-then-hold_all
loop-preserved-then-hold_all g c =
    let i = c.loop.invariant in
    let p = c.hold_all.ensures in
    (i.0, p.met g.T.Records.configured i.1, p.held (taken_in c.loop.pass.own) i.2, (λ k small. p.joined k small ∙ i.3 k small), i.4, i.5, p.sixteen.0, i.7, i.8)

pub fill-requires-clause-foretells : goal.fill-requires-clause-foretells
fill-requires-clause-foretells g c = (g.T.Records.limits, taken_in c.loop.pass.own, c.loop.invariant.8)

pub fill-requires-clause-met : goal.fill-requires-clause-met
fill-requires-clause-met g c = (g.T.Records.configured, c.hold_all.ensures.met g.T.Records.configured c.loop.invariant.1)

pub turn-requires-clause-asks : goal.turn-requires-clause-asks
turn-requires-clause-asks g c x (history, possible, leaves) =
    let i = c.loop.invariant in
    let p = c.fill.ensures in
    let met = p.met g.T.Records.configured (c.hold_all.ensures.met g.T.Records.configured i.1) in
    let held = p.held (taken_in c.loop.pass.own) (c.hold_all.ensures.held (taken_in c.loop.pass.own) i.2) in
    let led = possible.led i.0.2 in
    let begun = begun_same g.T.Stepped.leading c.requires.marks history c.loop.pass.own led ∙ i.0.3 in
    let taken = taken_same g.T.Stepped.leading c.requires.marks history c.loop.pass.own led in
    let fits = p.fits g.T.Records.limits (taken_in c.loop.pass.own) i.8 in
    let room = c.requires.room.1 in
    let may : MayTake g.T.Records.room g.T.Records.limits g.T.Records.configured (taken_in c.loop.pass.own) c.fill.new.items.items = record {
      short = omega (arith, fits, room);
      known = known_held g.T.Records.configured c.args.queues.now c.fill.new.takers met (taken_in c.loop.pass.own ++ c.fill.new.items.items) c.fill.new.heads held;
      runs = runs_held g.T.Records.configured c.args.queues.now c.fill.new.takers met (taken_in c.loop.pass.own ++ c.fill.new.items.items) c.fill.new.heads held;
    } in
    (taken_in history, c.requires.takes history x leaves begun, subst (λ (xs : List CapturedTold). MayTake g.T.Records.room g.T.Records.limits g.T.Records.configured xs c.fill.new.items.items) (sym taken) may)

pub returns-then-not-batch-clause-popped : goal.returns-then-not-batch-clause-popped
returns-then-not-batch-clause-popped g c =
    let i = c.loop.invariant in
    let own = taken_in c.loop.pass.own in
    let held = c.fill.ensures.held own (c.hold_all.ensures.held own i.2) in
    let t = c.turn.ensures.event in
    let m = t.related.0 in
    let rest = held_below 16 c.fill.new.heads in (
      m.lost ++ rest,
      subst (λ (xs : List CapturedTold). ArePopped xs c.fill.new.takers)
          (ap (λ (xs : List CapturedTold). xs ++ rest) (sym (batch_taken c.loop.pass.own _ t.own m)) ∙ append_assoc (taken_in c.turn.new.pass.own) m.lost rest)
          (let_go (own ++ c.fill.new.items.items) c.fill.new.heads c.fill.new.takers held),
      (λ e. absurd (never e)),
    )
  where
    never : false ≡ true → ⊥
    never e = cc

pub loop-preserved : goal.loop-preserved
loop-preserved g c =
    let i = c.loop.invariant in
    let own = taken_in c.loop.pass.own in
    let p = c.fill.ensures in
    let held = p.held own (c.hold_all.ensures.held own i.2) in
    let t = c.turn.ensures.event in
    let m = t.related.0 in
    let works : c.turn.new.job.works ≡ true = search rules in (
      (c.turn.ensures.pass.0 ∙ i.0.0, c.turn.ensures.pass.1 ∙ i.0.1, c.turn.ensures.pass.2 ∙ i.0.2, begun_after c.loop.pass.own _ t.own i.0.3),
      p.met g.T.Records.configured (c.hold_all.ensures.met g.T.Records.configured i.1),
      subst (λ (xs : List CapturedTold). AreHeld xs c.fill.new.heads c.fill.new.takers) (batch_whole c.loop.pass.own _ t.own m works) held,
      (λ k small. p.joined k small ∙ c.hold_all.ensures.joined k small ∙ i.3 k small),
      search rules,
      c.clear.ensures.empty,
      p.sixteen.0,
      prefix_turn c.args.pass.now.seen c.loop.pass.seen t.history _ _ i.7 t.possible.begins t.seen,
      subst (λ (x : List CapturedTold × Charges). Foretells g.T.Records.limits x.0 x.1) (λ k. (batch_whole c.loop.pass.own _ t.own m works k, sym t.related.2 k))
          (p.foretells g.T.Records.limits own i.8),
    )

pub returns-then-not-batch-clause-fails : goal.returns-then-not-batch-clause-fails
returns-then-not-batch-clause-fails g c = λ _.
    let t = c.turn.ensures.event in
    let fails : c.turn.new.job.works ≡ false = search rules in
    fault_last t.history _ t.seen (none_is _ (sym fails ∙ t.related.0.told))

pub returns-then-not-batch-clause-seen : goal.returns-then-not-batch-clause-seen
returns-then-not-batch-clause-seen g c =
    let t = c.turn.ensures.event in
    prefix_turn c.args.pass.now.seen c.loop.pass.seen t.history _ _ c.loop.invariant.7 t.possible.begins t.seen

pub returns-then-not-batch-clause-met : goal.returns-then-not-batch-clause-met
returns-then-not-batch-clause-met g c = c.fill.ensures.met g.T.Records.configured (c.hold_all.ensures.met g.T.Records.configured c.loop.invariant.1)

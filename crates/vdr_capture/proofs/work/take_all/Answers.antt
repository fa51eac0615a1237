use Rattle.std.proofs.Common.{◌≡◌, ℕ, ℤ, List, [], ◌∷◌, ◌++◌, refl, sym, ap, ◌∙◌, subst, add-one, arith, to_z, of_z, w64}
use Rattle.std.proofs.lemmas.Int.{ints}
use Rattle.vdr_terms.specs.Stamps.{IsStamp}
use Rattle.vdr_terms.specs.Records.{Item}
use Rattle.vdr_terms.specs.Counting.{Tally}
use Rattle.vdr_terms.proofs.Stamping.{stamp_kept}
use Rattle.vdr_core.proofs.Counted.{length_snoc}
use Rattle.vdr_intake.specs.Ends.{Feeding}
use Rattle.vdr_outside.specs.Calls.{Asked, asked_again, other}
use Rattle.vdr_capture.specs.Items.{HasCaptured}
use Rattle.vdr_capture.proofs.Keeping.{has_none}
use Rattle.vdr_capture.proofs.Giving.{gave_none, gave_waits, gave_more, nothing_left}
use Rattle.vdr_capture.proofs.work.take_all.Goals as goal
use Rattle.vdr_capture.proofs.work.take_all.Goals.{in-Datagram, in-Quiet}

pub loop-turn-init : goal.loop-turn-init
loop-turn-init g c = record {
  queue = c.requires.queue;
  given = [];
  gave = gave_none (g.P.Port.standing c.args.port.now);
  few = omega arith;
  asked = refl;
  faults = omega arith;
  items = has_none c.args.queue.now.group c.args.feeder.now.pushed c.args.feeder.now.full c.args.tally.now c.requires.new.0 c.requires.new.1 c.requires.new.2;
}

pub returns-in-Ended-clause-ended : goal.returns-in-Ended-clause-ended
returns-in-Ended-clause-ended g c _ = nothing_left _ _ _ c.loop-turn.invariant.gave.whole c.loop-turn.invariant.gave.left c.in-Ended.ensures.took.0.left c.in-Ended.ensures.took.1

-- the item as the port gave it, and the ends and the tally as they are after the branch
moved : (group : ℕ) (given : List Item) (received : ℕ) (utc utc' : ℤ) (bytes bytes' : List ℕ) (f f' : Feeding) (t t' : Tally) → utc' ≡ utc → bytes' ≡ bytes → f' ≡ f → t' ≡ t
    → HasCaptured group (given ++ record { received = received; utc = utc'; bytes = bytes' } ∷ []) f.pushed f.full t
    → HasCaptured group (given ++ record { received = received; utc = utc; bytes = bytes } ∷ []) f'.pushed f'.full t'
moved group given received utc utc' bytes bytes' f f' t t' a b d e h =
    subst (λ (x : ℤ × List ℕ × Feeding × Tally). HasCaptured group (given ++ record { received = received; utc = x.0; bytes = x.1 } ∷ []) x.2.pushed x.2.full x.3)
    (λ i. (a i, b i, sym d i, sym e i)) h

pub loop-turn-preserved : goal.loop-turn-preserved
loop-turn-preserved g c =
    let i = c.loop-turn.invariant in
    elim c.match-take.branch [
      | in-Datagram w ↦
          (let e = w.in-Datagram.ensures in
          let item : Item = record { received = w.in-Datagram.received; utc = w.in-Datagram.utc; bytes = c.take.new.into.items } in
          let kept = w.keep.ensures.kept i.given i.items in
          let longer = length_snoc i.given item in
          record {
            queue = ap (λ (f : Feeding). f.queue) w.feeder-is ∙ (w.keep.ensures.queue ∙ i.queue);
            given = i.given ++ item ∷ [];
            gave = gave_more (g.P.Port.standing c.args.port.now) (g.P.Port.standing c.loop-turn.port) (g.P.Port.standing c.take.new.self) i.given w.in-Datagram.received w.in-Datagram.utc c.take.new.into.items i.gave e.took;
            few = (let f = i.few in omega arith);
            asked = rw add-one (e.asked ∙ ap (λ (a : Asked). asked_again a other) i.asked);
            faults = (let f = i.faults in let l = e.later in omega arith);
            items = moved c.args.queue.now.group i.given w.in-Datagram.received w.in-Datagram.utc _ c.take.new.into.items w.as_slice.result.now w.keep.new.feeder c.match-take.feeder w.keep.new.tally c.match-take.tally (stamp_kept w.in-Datagram.utc e.took.stamp) w.as_slice.ensures.value w.feeder-is w.tally-is kept;
          })
      | in-Quiet w ↦
          (let e = w.in-Quiet.ensures in
          record {
            queue = ap (λ (f : Feeding). f.queue) w.feeder-is ∙ i.queue;
            given = i.given;
            gave = gave_waits (g.P.Port.standing c.args.port.now) (g.P.Port.standing c.loop-turn.port) (g.P.Port.standing c.take.new.self) i.given c.take.new.into.items i.gave e.took;
            few = (let f = i.few in omega arith);
            asked = rw add-one (e.asked ∙ ap (λ (a : Asked). asked_again a other) i.asked);
            faults = (let f = i.faults in let l = e.later in omega arith);
            items = subst (λ (x : Feeding × Tally). HasCaptured c.args.queue.now.group i.given x.0.pushed x.0.full x.1) (λ k. (sym w.feeder-is k, sym w.tally-is k)) i.items;
          })
    ]

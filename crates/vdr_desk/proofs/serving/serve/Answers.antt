use Rattle.std.proofs.Common.{rules, ◌≡◌, ◌≤◌, ◌+◌, ◌⊎◌, inl, inr, ◌++◌, ℕ, List, [], ◌∷◌, Some, None, Result, length, refl, sym, ap, ◌∙◌, subst, add-one, arith}
use Rattle.std.proofs.lemmas.List.{length-append}
use Rattle.vdr_latch.specs.Passes.{Passing}
use Rattle.vdr_latch.proofs.Prefixes.{prefix_self}
use Rattle.vdr_outside.specs.Calls.{Asked, asked_again, other}
use Rattle.vdr_outside.specs.declared.fault.Failed.{Failed as LinkFailed}
use Rattle.vdr_desk.specs.Answers.{IsBegun}
use Rattle.vdr_desk.specs.Exchanges.{Exchange, IsSaid, no_order_line, texts_of}
use Rattle.vdr_desk.proofs.Conversing.{HasSaid, has_said, heard_line, heard_long, heard_none, of_err, of_ok, replied_kept, replied_none}
use Rattle.vdr_desk.proofs.Exchanged.{refused_at}
use Rattle.vdr_desk.proofs.serving.serve.Goals as goal
use Rattle.vdr_desk.proofs.serving.serve.Goals.{in-Line, in-Long}

as_served : {P Q R : Type 0} {x : R} → P ⊎ Q → P ⊎ ((x ≡ x) × Q)
as_served (inl p) = inl p
as_served (inr q) = inr (refl, q)

pub loop-turn-init : goal.loop-turn-init
loop-turn-init g c = record {
  pass = (refl, refl, refl);
  exchanges = [];
  heard = heard_none (g.L.Link.left c.args.link.now);
  few = omega arith;
  replied = replied_none (g.L.Link.replied c.args.link.now);
  asked = refl;
  faults = omega arith;
  answered = omega arith;
}

pub returns-then-is_err-clause-served : goal.returns-then-is_err-clause-served
returns-then-is_err-clause-served g c =
    let i = c.loop-turn.invariant in
    let a = g.T.Answers.answers c.args.number in
    let b = IsBegun (g.T.Answers.waits c.args.number) in
    let start = length c.args.pass.now.seen in
    let was = c.args.link.now in
    let mid = c.line.new.self in
    let kept = replied_kept (g.L.Link.replied was) (g.L.Link.replied c.loop-turn.link) (g.L.Link.replied mid) (texts_of i.exchanges) i.replied c.line.ensures.replied in
    let later : g.L.Link.faults was ≤ g.L.Link.faults mid = (let f = i.faults in let l = c.line.ensures.later in omega (arith, f, l)) in
    let step : HasSaid g.L.Link a b was c.loop-turn.link c.match-line.link i.exchanges start c.match-line.pass.seen c.match-line.said =
    elim c.match-line.branch [
      | in-Line w ↦
          (let e = w.in-Line.ensures in
          let r = w.answer_line-said.ensures in
          let text = r.said.0 in
          let x : Exchange = record { line = Some c.line.new.into.items; text = text } in
          subst (λ (y : Passing g.row.T-Event.Denot × g.row.L.Denot × Result Unit LinkFailed). HasSaid g.L.Link a b was c.loop-turn.link y.1 i.exchanges start y.0.seen y.2)
          (λ k. (sym w.pass-is k, sym w.link-is k, sym w.said-is k))
          (has_said g.L.Link a b was c.loop-turn.link mid w.answer_line-said.new.link i.exchanges start c.loop-turn.pass.seen w.answer_line-said.new.pass.seen x
          (heard_line (g.L.Link.left was) (g.L.Link.left c.loop-turn.link) (g.L.Link.left mid) i.exchanges c.line.new.into.items text i.heard e.heard)
          kept e.asked later i.answered r.seen w.answer_line-said.result r.said.1
          (subst (λ (l : List ℕ). IsSaid a b w.answer_line-said.new.pass.seen (length c.loop-turn.pass.seen) (length w.answer_line-said.new.pass.seen) (record { line = Some l; text = text }) w.answer_line-said.result) w.as_slice.ensures.value r.said.2)))
      | in-Long w ↦
          (let e = w.in-Long.ensures in
          let x : Exchange = record { line = None; text = no_order_line } in
          subst (λ (y : Passing g.row.T-Event.Denot × g.row.L.Denot × Result Unit LinkFailed). HasSaid g.L.Link a b was c.loop-turn.link y.1 i.exchanges start y.0.seen y.2)
          (λ k. (sym w.pass-is k, sym w.link-is k, sym w.said-is k))
          (has_said g.L.Link a b was c.loop-turn.link mid w.refuse-said.new.link i.exchanges start c.loop-turn.pass.seen c.loop-turn.pass.seen x
          (heard_long (g.L.Link.left was) (g.L.Link.left c.loop-turn.link) (g.L.Link.left mid) i.exchanges c.line.new.into.items no_order_line i.heard e.heard)
          kept e.asked later i.answered (prefix_self c.loop-turn.pass.seen) w.refuse-said.result w.refuse-said.ensures
          (inl (refused_at a c.loop-turn.pass.seen None no_order_line tt refl))))
    ] in
    let fails = sym c.is_err.ensures.value ∙ c.if-is_err.true in (
      i.exchanges ++ step.x ∷ [],
      (record {
        others = c.loop-turn._turn + 1;
        heard = step.heard;
        few = (let l = length-append i.exchanges (step.x ∷ []) in let f = i.few in omega (arith, l, f));
        replied = λ ne. absurd (ne refl);
        front = step.front;
        ends = inr ((let t = c.loop-turn-test.true in omega (arith, t)), rw add-one (step.asked ∙ ap (λ (a : Asked). asked_again a other) i.asked));
        faults = step.cause.later;
        fails = λ _. of_err _ c.match-line.said fails step.cause.failed;
        nothing_left = λ e. absurd (search (rules, e));
      }),
      as_served step.served,
    )

pub loop-turn-preserved : goal.loop-turn-preserved
loop-turn-preserved g c =
    let i = c.loop-turn.invariant in
    let a = g.T.Answers.answers c.args.number in
    let b = IsBegun (g.T.Answers.waits c.args.number) in
    let start = length c.args.pass.now.seen in
    let was = c.args.link.now in
    let mid = c.line.new.self in
    let kept = replied_kept (g.L.Link.replied was) (g.L.Link.replied c.loop-turn.link) (g.L.Link.replied mid) (texts_of i.exchanges) i.replied c.line.ensures.replied in
    let later : g.L.Link.faults was ≤ g.L.Link.faults mid = (let f = i.faults in let l = c.line.ensures.later in omega (arith, f, l)) in
    let step : HasSaid g.L.Link a b was c.loop-turn.link c.match-line.link i.exchanges start c.match-line.pass.seen c.match-line.said =
    elim c.match-line.branch [
      | in-Line w ↦
          (let e = w.in-Line.ensures in
          let r = w.answer_line-said.ensures in
          let text = r.said.0 in
          let x : Exchange = record { line = Some c.line.new.into.items; text = text } in
          subst (λ (y : Passing g.row.T-Event.Denot × g.row.L.Denot × Result Unit LinkFailed). HasSaid g.L.Link a b was c.loop-turn.link y.1 i.exchanges start y.0.seen y.2)
          (λ k. (sym w.pass-is k, sym w.link-is k, sym w.said-is k))
          (has_said g.L.Link a b was c.loop-turn.link mid w.answer_line-said.new.link i.exchanges start c.loop-turn.pass.seen w.answer_line-said.new.pass.seen x
          (heard_line (g.L.Link.left was) (g.L.Link.left c.loop-turn.link) (g.L.Link.left mid) i.exchanges c.line.new.into.items text i.heard e.heard)
          kept e.asked later i.answered r.seen w.answer_line-said.result r.said.1
          (subst (λ (l : List ℕ). IsSaid a b w.answer_line-said.new.pass.seen (length c.loop-turn.pass.seen) (length w.answer_line-said.new.pass.seen) (record { line = Some l; text = text }) w.answer_line-said.result) w.as_slice.ensures.value r.said.2)))
      | in-Long w ↦
          (let e = w.in-Long.ensures in
          let x : Exchange = record { line = None; text = no_order_line } in
          subst (λ (y : Passing g.row.T-Event.Denot × g.row.L.Denot × Result Unit LinkFailed). HasSaid g.L.Link a b was c.loop-turn.link y.1 i.exchanges start y.0.seen y.2)
          (λ k. (sym w.pass-is k, sym w.link-is k, sym w.said-is k))
          (has_said g.L.Link a b was c.loop-turn.link mid w.refuse-said.new.link i.exchanges start c.loop-turn.pass.seen c.loop-turn.pass.seen x
          (heard_long (g.L.Link.left was) (g.L.Link.left c.loop-turn.link) (g.L.Link.left mid) i.exchanges c.line.new.into.items no_order_line i.heard e.heard)
          kept e.asked later i.answered (prefix_self c.loop-turn.pass.seen) w.refuse-said.result w.refuse-said.ensures
          (inl (refused_at a c.loop-turn.pass.seen None no_order_line tt refl))))
    ] in
    let pass : (c.match-line.pass.latch ≡ c.loop-turn.pass.latch) × (c.match-line.pass.parts ≡ c.loop-turn.pass.parts) × (c.match-line.pass.leads ≡ c.loop-turn.pass.leads) =
    elim c.match-line.branch [
      | in-Line w ↦ subst (λ (x : Passing g.row.T-Event.Denot). (x.latch ≡ c.loop-turn.pass.latch) × (x.parts ≡ c.loop-turn.pass.parts) × (x.leads ≡ c.loop-turn.pass.leads)) (sym w.pass-is) w.answer_line-said.ensures.pass
      | in-Long w ↦ subst (λ (x : Passing g.row.T-Event.Denot). (x.latch ≡ c.loop-turn.pass.latch) × (x.parts ≡ c.loop-turn.pass.parts) × (x.leads ≡ c.loop-turn.pass.leads)) (sym w.pass-is) (refl, refl, refl)
    ] in
    let works = sym c.is_err.ensures.value ∙ c.if-is_err.false in
    record {
      pass = (pass.0 ∙ i.pass.0, pass.1 ∙ i.pass.1, pass.2 ∙ i.pass.2);
      exchanges = i.exchanges ++ step.x ∷ [];
      heard = step.heard;
      few = (let l = length-append i.exchanges (step.x ∷ []) in let f = i.few in omega (arith, l, f));
      replied = of_ok _ c.match-line.said works step.all;
      asked = rw add-one (step.asked ∙ ap (λ (a : Asked). asked_again a other) i.asked);
      faults = step.cause.later;
      answered = of_ok _ c.match-line.said works step.answered;
    }

use Rattle.std.proofs.Common.{◌≡◌, ◌<◌, ℕ, List, Option, Some, None, IfSome, length, get_or, sym, ap, ◌∙◌, subst, arith, ⊎_elim}
use Rattle.std.proofs.lemmas.List.{get_or-set_other, length-set}
use Rattle.std.proofs.lemmas.Bool.{cases_eq}
use mathlib.Core.List.{IsPrefix}
use Rattle.vdr_latch.specs.Passes.{Passing}
use Rattle.vdr_desk.specs.declared.desk.Desk.{Desk}
use Rattle.vdr_desk.proofs.Exchanged.{prefix_join}
use Rattle.vdr_desk.proofs.Lists.{at_each, no_default, same_some}
use Rattle.vdr_desk.proofs.passing.join_desks.Goals as goal

-- who has seen the first part of what was seen before has seen the first part of what is seen now
seen_on : {E : Type 0} (pass : Option (Passing E)) (before now : List E) → IsPrefix before now → IfSome pass (λ p. IsPrefix p.seen before) → IfSome pass (λ p. IsPrefix p.seen now)
seen_on None before now grows h = tt
seen_on (Some p) before now grows h = prefix_join p.seen before now h grows

pub unreachable-requires : goal.unreachable-requires
unreachable-requires g c =
    let n = c.loop-i.i in
    let d = c.index-desks-i.result in
    let h = c.requires.held n d c.loop-i-test.true in
    let value : c.take.result ≡ Some h.0 = c.take.ensures.value ∙ ap (λ (x : Desk g.row.L.Denot g.row.T-Event.Denot). x.pass) (c.loop-i.invariant.4 n d (omega arith)) ∙ h.1 in
    c.in_default.not-Some h.0 value

pub join-requires-clause-latch : goal.join-requires-clause-latch
join-requires-clause-latch g c =
    let n = c.loop-i.i in
    let d = c.index-desks-i.result in
    let h = c.requires.held n d c.loop-i-test.true in
    let value : c.take.result ≡ Some h.0 = c.take.ensures.value ∙ ap (λ (x : Desk g.row.L.Denot g.row.T-Event.Denot). x.pass) (c.loop-i.invariant.4 n d (omega arith)) ∙ h.1 in
    let own : c.in-Some.own ≡ h.0 = same_some c.in-Some.own h.0 (sym c.in-Some.is ∙ value) in
    (c.loop-i.invariant.0.0 ∙ c.requires.latch, ap (λ (p : Passing g.row.T-Event.Denot). p.latch) own ∙ h.2)

pub join-requires-clause-follows : goal.join-requires-clause-follows
join-requires-clause-follows g c =
    let n = c.loop-i.i in
    let d = c.index-desks-i.result in
    let h = c.requires.held n d c.loop-i-test.true in
    let value : c.take.result ≡ Some h.0 = c.take.ensures.value ∙ ap (λ (x : Desk g.row.L.Denot g.row.T-Event.Denot). x.pass) (c.loop-i.invariant.4 n d (omega arith)) ∙ h.1 in
    let own : c.in-Some.own ≡ h.0 = same_some c.in-Some.own h.0 (sym c.in-Some.is ∙ value) in
    ap (λ (p : Passing g.row.T-Event.Denot). p.leads) own ∙ h.3

pub loop-i-preserved : goal.loop-i-preserved
loop-i-preserved g c =
    let i = c.loop-i.invariant in
    let n = c.loop-i.i in
    let desks = c.loop-i.desks in
    let few : n < length desks = (let l = i.5 in let t = c.loop-i-test.true in omega (arith, l, t)) in
    let d0 = c.index-desks-i.result in
    let h = c.requires.held n d0 c.loop-i-test.true in
    let was : (d : Desk g.row.L.Denot g.row.T-Event.Denot) → get_or desks n d0 ≡ get_or c.args.desks.now n d = λ d. no_default desks n d0 d few ∙ i.4 n d (omega arith) in
    let value : c.take.result ≡ Some h.0 = c.take.ensures.value ∙ ap (λ (x : Desk g.row.L.Denot g.row.T-Event.Denot). x.pass) (was d0) ∙ h.1 in
    let own : c.in-Some.own ≡ h.0 = same_some c.in-Some.own h.0 (sym c.in-Some.is ∙ value) in
    let one : c.in-Some.own.parts ≡ 1 = ap (λ (p : Passing g.row.T-Event.Denot). p.parts) own ∙ h.4 in
    let none : c.take.new.self ≡ None = c.take.ensures.after in
    let new : Desk g.row.L.Denot g.row.T-Event.Denot = record (get_or desks n d0) { pass = c.take.new.self } in
    let p = c.join.ensures.pass in
    let grows = c.join.ensures.seen in
    let theirs : (d : Desk g.row.L.Denot g.row.T-Event.Denot) → IfSome (get_or c.args.desks.now n d).pass (λ q. IsPrefix q.seen c.join.new.pass.seen) = λ d.
    subst (λ (o : Option (Passing g.row.T-Event.Denot)). IfSome o (λ q. IsPrefix q.seen c.join.new.pass.seen))
    (sym c.in-Some.is ∙ c.take.ensures.value ∙ ap (λ (x : Desk g.row.L.Denot g.row.T-Event.Denot). x.pass) (was d)) grows.1 in (
      (p.0 ∙ i.0.0, (let a = p.1 in let b = i.0.1 in omega (arith, a, b, one)), p.2 ∙ i.0.2, p.3 ∙ i.0.3),
      prefix_join c.args.pass.now.seen c.loop-i.pass.seen c.join.new.pass.seen i.1 grows.0,
      (λ k d low. ⊎_elim (λ (e : k ≡ n). subst (λ (m : ℕ). IfSome (get_or c.args.desks.now m d).pass (λ q. IsPrefix q.seen c.join.new.pass.seen)) (sym e) (theirs d)) (λ (ne : k ≡ n → ⊥). seen_on (get_or c.args.desks.now k d).pass c.loop-i.pass.seen c.join.new.pass.seen grows.0 (i.2 k d (omega (arith, low, ne)))) (cases_eq k n)),
      (λ k d low. at_each desks n new few (λ k x. x ≡ record (get_or c.args.desks.now k d) { pass = None }) d (λ j. record (was d j) { pass = none j }) k (λ ne. i.3 k d (omega (arith, low, ne)))),
      (λ k d high. get_or-set_other desks n k new d (λ e. omega (arith, e, high)) ∙ i.4 k d (omega (arith, high))),
      length-set desks n new ∙ i.5,
    )

use Rattle.std.proofs.Common.{◌≡◌, ℕ, [], ◌∷◌, Option, Some, List, rules, sym, ap, ◌∙◌, subst}
use Rattle.atomic_table.specs.Table.{Me, rest}
use Rattle.vdr_latch.specs.declared.view.View.{View}
use Rattle.vdr_latch.specs.Passes.{Knows}
use Rattle.vdr_latch.specs.Views.{view_of}
use Rattle.vdr_latch.specs.Steps.{entered, served}
use Rattle.vdr_latch.proofs.Serving.{knows_more}
use Rattle.vdr_latch.proofs.latch.Latch.turn.Goals as goal

pub exchange-requires : goal.exchange-requires
exchange-requires g c =
    let e = c.enter.ensures.view.2 in
    let x = c.enter.ensures.view.1 in
    let slots : Me (Option g.row.T.Denot) (View g.row.T-Event.Denot) → List (ℕ × Option g.row.T.Denot) = λ m. m.1 in
    (search rules, (Some x, ap slots e ∙ ap (λ (l : List (ℕ × Option g.row.T.Denot)). (0, Some x) ∷ l) (sym (ap (λ m. rest (slots m)) e))))

pub returns-clause-possible : goal.returns-clause-possible
returns-clause-possible g c =
    let history = c.enter.ensures.view.0 in
    let drawn = c.draw-ticket.new.seat.me.0 in
    let e = g.J.Job.event c.args.job.now c.in-Some.value c.work.new.job c.work.ensures.view.0 in
    let view : (m n : Me (Option g.row.T.Denot) (View g.row.T-Event.Denot)) → m ≡ n → m.0 ≡ n.0 = λ m n p. ap (λ (z : Me (Option g.row.T.Denot) (View g.row.T-Event.Denot)). z.0) p in
    let held : c.exchange.new.seat.me.0 ≡ entered history drawn = view _ _ c.exchange.ensures.3 ∙ view _ _ c.enter.ensures.view.2 in
    let last : view_of c.into_badge.result.views ≡ served (e ∷ []) (entered history drawn) = ap view_of c.into_badge.ensures.2 ∙ (view _ _ c.work.ensures.view.3 ∙ ap (served (e ∷ [])) held) in
    subst (λ (u : View g.row.T-Event.Denot). Knows g.T.Stepped.leading u.leads u.seen u.own u.seen) (sym last) (knows_more _ drawn.leads drawn.seen drawn.own history e c.enter.ensures.view.5)

use Rattle.std.proofs.Common.{◌≡◌, ◌<◌, ◌+◌, false, [], Option, None, rules, sym, ap, ◌∙◌, subst, arith}
use Rattle.atomic_table.specs.Table.{Me}
use Rattle.vdr_latch.specs.declared.view.View.{View}
use Rattle.vdr_latch.specs.Views.{view_of}
use Rattle.vdr_latch.specs.Passes.{Passing}
use Rattle.vdr_latch.proofs.Joining.{joins}
use Rattle.vdr_latch.proofs.Looking.{learns}
use Rattle.vdr_latch.proofs.latch.Latch.join.Goals as goal

pub join_seat-requires : goal.join_seat-requires
join_seat-requires g c =
    let r = c.pass.invariant in
    let q = c.other.invariant in
    let is : view_of c.pass.inside.badge.views ≡ c.into_seat-seat.result.me.0 = ap (λ b. view_of b.views) (sym c.replace-badge.ensures.value) ∙ ap view_of c.into_seat-seat.ensures.2 in
    let it : view_of c.other.inside.badge.views ≡ c.into_seat.result.me.0 = ap view_of c.into_seat.ensures.2 in
    let follows : (view_of c.other.inside.badge.views).leads ≡ false = ap (λ (p : Passing g.row.T-Event.Denot). p.leads) c.other.view_is ∙ c.requires.follows in
    let P : View g.row.T-Event.Denot → Type 0 = λ v. (0 < v.parts) × (v.in_turn ≡ false) × (v.told ≡ []) in
    let Q : View g.row.T-Event.Denot → Type 0 = λ w. (w.leads ≡ false) × (w.ticket ≡ None) × (w.in_turn ≡ false) × (w.told ≡ []) in
    let v = subst P is (r.1, r.3, r.4) in
    let w = subst Q it (follows, q.2, q.3, q.4) in
    (search rules, search rules, c.into_seat.ensures.3, omega arith, joins _ _ _ _ _ _ v.0 v.1 v.2 w.0 w.1 w.2 w.3)

pub load-requires : goal.load-requires
load-requires g c =
    let r = c.pass.invariant in
    let is : view_of c.pass.inside.badge.views ≡ c.into_seat-seat.result.me.0 = ap (λ b. view_of b.views) (sym c.replace-badge.ensures.value) ∙ ap view_of c.into_seat-seat.ensures.2 in
    let P : View g.row.T-Event.Denot → Type 0 = λ v. (0 < v.parts) × (v.in_turn ≡ false) in
    let before = subst P is (r.1, r.3) in
    let some_part : 0 < c.into_seat-seat.result.me.0.parts + c.into_seat.result.me.0.parts = omega arith in
    let Q : Me (Option g.row.T.Denot) (View g.row.T-Event.Denot) → Type 0 = λ m. (0 < m.0.parts) × (m.0.in_turn ≡ false) in
    let v = subst Q (sym c.join_seat.ensures.2) (some_part, before.1) in
    (search rules, omega arith, learns _ _ _ _ _ v.0 v.1)

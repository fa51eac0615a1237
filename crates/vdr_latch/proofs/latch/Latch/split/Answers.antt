use Rattle.std.proofs.Common.{◌≡◌, ◌<◌, false, rules, sym, ap, ◌∙◌, subst, arith}
use Rattle.vdr_latch.specs.declared.view.View.{View}
use Rattle.vdr_latch.specs.Views.{view_of}
use Rattle.vdr_latch.specs.Passes.{Passing}
use Rattle.vdr_latch.proofs.Splitting.{splits}
use Rattle.vdr_latch.proofs.latch.Latch.split.Goals as goal

pub split_seat-other-requires : goal.split_seat-other-requires
split_seat-other-requires g c =
    let r = c.pass.invariant in
    let is : view_of c.pass.inside.badge.views ≡ c.into_seat-seat.result.me.0 = ap (λ b. view_of b.views) (sym c.replace-badge.ensures.value) ∙ ap view_of c.into_seat-seat.ensures.2 in
    let P : View g.row.T-Event.Denot → Type 0 = λ v. (1 < v.parts) × (v.in_turn ≡ false) in
    let parts : (view_of c.pass.inside.badge.views).parts ≡ c.args.pass.now.parts = ap (λ (p : Passing g.row.T-Event.Denot). p.parts) c.pass.view_is in
    let many = c.requires.parts in
    let more : 1 < (view_of c.pass.inside.badge.views).parts = omega arith in
    let v = subst P is (more, r.3) in
    (search rules, omega arith, splits _ _ _ _ v.0 v.1)

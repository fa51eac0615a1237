use Rattle.std.proofs.Common.{◌∙◌, List, ap, subst, sym}
use Rattle.vdr_alerts.specs.Rows.{AreOrdered, IsPlaced, with_row}
use Rattle.vdr_alerts.proofs.Ordered.{ordered_with, put_placed}
use Rattle.vdr_thin.specs.Runs.{Point, point_cmp}
use Rattle.vdr_thin.proofs.Orders.{point_total}
use Rattle.vdr_thin.proofs.points.put_point.Goals as goal

pub place_of-requires : goal.place_of-requires
place_of-requires c = subst (AreOrdered point_cmp) (sym c.as_slice.ensures.value) c.requires.ordered

pub put_at-requires-clause-place : goal.put_at-requires-clause-place
put_at-requires-clause-place c = rw c.copied.ensures (subst (λ (ps : List Point). IsPlaced (λ p. point_cmp p c.args.point.now) ps c.place_of.result) c.as_slice.ensures.value c.place_of.ensures)

pub returns-clause-points : goal.returns-clause-points
returns-clause-points c =
    let points : List Point = c.args.points.now.items in
    let p = subst (λ (ps : List Point). IsPlaced (λ p. point_cmp p c.args.point.now) ps c.place_of.result) c.as_slice.ensures.value c.place_of.ensures in
    c.put_at.ensures.points ∙ ap (with_row c.place_of.result points) c.copied.ensures ∙ put_placed point_cmp point_total points c.args.point.now c.requires.ordered c.place_of.result p

pub returns-clause-ordered : goal.returns-clause-ordered
returns-clause-ordered c =
    let points : List Point = c.args.points.now.items in
    let p = subst (λ (ps : List Point). IsPlaced (λ p. point_cmp p c.args.point.now) ps c.place_of.result) c.as_slice.ensures.value c.place_of.ensures in
    let put_is = c.put_at.ensures.points ∙ ap (with_row c.place_of.result points) c.copied.ensures ∙ put_placed point_cmp point_total points c.args.point.now c.requires.ordered c.place_of.result p in
    subst (AreOrdered point_cmp) (sym put_is) (ordered_with point_cmp point_total points c.args.point.now c.requires.ordered)

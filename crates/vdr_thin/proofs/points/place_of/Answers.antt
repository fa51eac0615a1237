use Rattle.std.proofs.Common.{rules}
use Rattle.std.proofs.lemmas.Fn.{always_returns_same}
use Rattle.vdr_alerts.proofs.Ordered.{placed}
use Rattle.vdr_thin.proofs.Orders.{point_total}
use Rattle.vdr_thin.specs.Runs.{point_cmp}
use Rattle.vdr_thin.proofs.points.place_of.Goals as goal

pub returns : goal.returns
returns c =
    let facts = c.binary_search_by.ensures in
    let by = facts.position (λ p. point_cmp p c.args.point.now) (always_returns_same _ _ _ (λ a r q called. (search rules, search rules))) in
    placed point_cmp point_total c.args.points.now c.args.point.now c.requires _ facts.bound by

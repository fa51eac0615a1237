use Rattle.std.proofs.Common.{rules}
use Rattle.std.proofs.lemmas.Fn.{always_returns_same}
use Rattle.vdr_alerts.proofs.Ordered.{placed}
use Rattle.vdr_alerts.proofs.Orders.{part_total}
use Rattle.vdr_alerts.specs.Alerts.{part_cmp}
use Rattle.vdr_alerts.proofs.board.place_of_part.Goals as goal

pub returns : goal.returns
returns c =
    let facts = c.binary_search_by.ensures in
    let by = facts.position (λ p. part_cmp p c.args.part.now) (always_returns_same _ _ _ (λ a r q called. (search rules, search rules))) in
    placed part_cmp part_total c.args.rows.now c.args.part.now c.requires _ facts.bound by

use Rattle.std.proofs.Common.{rules}
use Rattle.std.proofs.lemmas.Fn.{always_returns_same}
use Rattle.vdr_alerts.proofs.Ordered.{placed}
use Rattle.vdr_alerts.proofs.Orders.{alert_total}
use Rattle.vdr_alerts.specs.Alerts.{alert_cmp}
use Rattle.vdr_alerts.proofs.board.place_of_alert.Goals as goal

pub returns : goal.returns
returns c =
    let facts = c.binary_search_by.ensures in
    let by = facts.position (λ a. alert_cmp a c.args.alert.now) (always_returns_same _ _ _ (λ a r q called. (search rules, search rules))) in
    placed alert_cmp alert_total c.args.rows.now c.args.alert.now c.requires _ facts.bound by

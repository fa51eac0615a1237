use Rattle.std.proofs.Common.{rules}
use Rattle.std.proofs.lemmas.Fn.{always_returns_same}
use Rattle.vdr_alerts.proofs.Ordered.{placed}
use Rattle.vdr_watch.proofs.Orders.{alarm_total}
use Rattle.vdr_watch.specs.Supervision.{alarm_cmp}
use Rattle.vdr_watch.proofs.place.place_of_alarm.Goals as goal

pub returns : goal.returns
returns c =
    let facts = c.binary_search_by.ensures in
    let by = facts.position (λ a. alarm_cmp a c.args.alarm.now) (always_returns_same _ _ _ (λ a r q called. (search rules, search rules))) in
    placed alarm_cmp alarm_total c.args.rows.now c.args.alarm.now c.requires _ facts.bound by

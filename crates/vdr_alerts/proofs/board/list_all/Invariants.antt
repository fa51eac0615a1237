use Rattle.std.proofs.Common.{◌≡◌, ◌++◌, drop, map, take}
use Rattle.vdr_alerts.specs.Alerts.{behind_list}
use Rattle.vdr_alerts.proofs.board.list_all.Given as goal

abbrev pub invariant-loop-alert : goal.invariant-loop-alert
invariant-loop-alert l = l.alerts ≡ map (behind_list l.is_ended l.part l.reading.values) (take l.alert-index l.initial.alerts) ++ drop l.alert-index l.initial.alerts

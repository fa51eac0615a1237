use Rattle.std.proofs.Common.{◌≡◌}
use Rattle.vdr_alerts.specs.Alerts.{names_among}
use Rattle.vdr_alerts.proofs.saying.names.Given as goal

abbrev pub invariant-loop-place : goal.invariant-loop-place
invariant-loop-place l = l.is_listed ≡ names_among l.reading.values l.alert l.place

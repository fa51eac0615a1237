use Rattle.std.proofs.Common.{rules}
use Rattle.std.proofs.lemmas.Fn.{always_returns_same}
use Rattle.vdr_durability.specs.Sources.{source_cmp}
use Rattle.vdr_alerts.proofs.Ordered.{placed}
use Rattle.vdr_watch.proofs.Orders.{beat_from, beat_total}
use Rattle.vdr_watch.specs.Supervision.{beat_cmp}
use Rattle.vdr_watch.proofs.place.place_of_heartbeat.Goals as goal

pub returns : goal.returns
returns c =
    let facts = c.binary_search_by.ensures in
    let by = facts.position (λ b. source_cmp b.source (record { group = c.args.group; name = c.args.name.now })) (always_returns_same _ _ _ (λ a r q called. (search rules, search rules))) in
    placed beat_cmp beat_total c.args.rows.now (beat_from (record { group = c.args.group; name = c.args.name.now })) c.requires _ facts.bound by

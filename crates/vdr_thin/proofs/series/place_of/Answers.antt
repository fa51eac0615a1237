use Rattle.std.proofs.Common.{rules}
use Rattle.std.proofs.lemmas.Fn.{always_returns_same}
use Rattle.vdr_alerts.proofs.Ordered.{placed}
use Rattle.vdr_thin.proofs.Orders.{row_total}
use Rattle.vdr_thin.proofs.Placing.{row_from}
use Rattle.vdr_thin.specs.Tables.{Key, key_cmp, row_cmp}
use Rattle.vdr_thin.proofs.series.place_of.Goals as goal

pub returns : goal.returns
returns c =
    let key : Key = record { kind = c.args.kind; text = c.args.key.now } in
    let facts = c.binary_search_by.ensures in
    let by = facts.position (λ row. key_cmp row.key key) (always_returns_same _ _ _ (λ a r q called. (search rules, search rules))) in
    placed row_cmp row_total c.args.rows.now (row_from key) c.requires _ facts.bound by

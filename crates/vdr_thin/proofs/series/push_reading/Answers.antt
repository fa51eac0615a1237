use Rattle.std.proofs.Common.{◌∙◌, List, Ok, Err, subst, sym}
use Rattle.vdr_alerts.specs.Rows.{AreOrdered, IsPlaced}
use Rattle.vdr_thin.specs.Tables.{Key, Row, key_cmp, row_cmp}
use Rattle.vdr_thin.proofs.Placing.{ended_at, if_ok, is_new, on_ok, pushed_at, put_new}
use Rattle.vdr_thin.proofs.series.push_reading.Goals as goal

pub place_of-requires : goal.place_of-requires
place_of-requires c = subst (AreOrdered row_cmp) (sym c.as_slice.ensures.value) c.requires.ordered

pub returns-in-Ok-clause-rows : goal.returns-in-Ok-clause-rows
returns-in-Ok-clause-rows c =
    let key : Key = record { kind = c.args.kind; text = c.args.key.now } in
    let placed = subst (λ (rows : List Row). IsPlaced (λ row. key_cmp row.key key) rows (Ok c.in-Ok.at)) c.as_slice.ensures.value c.in-Ok.ensures in
    on_ok c.push.result (pushed_at c.args.step c.args.rows.now.items key c.args.reading c.requires.ordered c.in-Ok.at c.index_mut.result.now c.push.new.self placed c.index_mut.ensures.value c.push.ensures.key) c.push.ensures.run

pub returns-in-Ok-clause-ended : goal.returns-in-Ok-clause-ended
returns-in-Ok-clause-ended c =
    let key : Key = record { kind = c.args.kind; text = c.args.key.now } in
    let placed = subst (λ (rows : List Row). IsPlaced (λ row. key_cmp row.key key) rows (Ok c.in-Ok.at)) c.as_slice.ensures.value c.in-Ok.ensures in
    if_ok _ _ c.push.result (ended_at c.args.step c.args.rows.now.items key c.args.reading c.requires.ordered c.in-Ok.at c.index_mut.result.now placed c.index_mut.ensures.value) c.push.ensures.ended

pub returns-in_ok-insert_row-in-Err-clause-rows : goal.returns-in_ok-insert_row-in-Err-clause-rows
returns-in_ok-insert_row-in-Err-clause-rows c =
    let key : Key = record { kind = c.args.kind; text = c.args.key.now } in
    let placed = subst (λ (rows : List Row). IsPlaced (λ row. key_cmp row.key key) rows (Err c.in-Err.at)) c.as_slice.ensures.value c.in-Err.ensures in
    c.in_ok-insert_row-in-Err.ensures.rows ∙ put_new c.args.step c.args.rows.now.items key c.args.reading c.requires.ordered c.in-Err.at c.in_ok-row-in-Err.row placed c.in_ok-row-in-Err.ensures

pub returns-in_ok-insert_row-in-Err-clause-ended : goal.returns-in_ok-insert_row-in-Err-clause-ended
returns-in_ok-insert_row-in-Err-clause-ended c =
    let key : Key = record { kind = c.args.kind; text = c.args.key.now } in
    let placed = subst (λ (rows : List Row). IsPlaced (λ row. key_cmp row.key key) rows (Err c.in-Err.at)) c.as_slice.ensures.value c.in-Err.ensures in
    is_new c.args.step c.args.rows.now.items key c.args.reading c.requires.ordered c.in-Err.at placed

use Rattle.std.proofs.Common.{◌+◌, List, sym, subst}
use Rattle.std.proofs.lemmas.Int.{to_z-of_z}
use Rattle.vdr_durability.specs.Sources.{Row}
use Rattle.vdr_sources.specs.Rows.{IsAt, IsGap, IsTable, line_told, reading_told}
use Rattle.vdr_sources.proofs.Placing.{put_at, put_in, sorted_of, table_with}
use Rattle.vdr_sources.proofs.table.count.Goals as goal

pub place_of-requires : goal.place_of-requires
place_of-requires c = rw c.as_slice.ensures.value (sorted_of _ _ c.requires.table)

pub returns-in-Ok-clause-rows : goal.returns-in-Ok-clause-rows
returns-in-Ok-clause-rows c =
    let l = line_told c.args.group c.args.utc (reading_told c.args.told.now) in
    sym (put_at l c.args.rows.now.items c.in-Ok.at c.index_mut.result.now c.add.new.self
    (subst (λ (rows : List Row). IsAt l.source rows c.in-Ok.at) c.as_slice.ensures.value c.in-Ok.ensures.found) c.index_mut.ensures.value (simp (to_z-of_z, c.ranges.utc) at c.add.ensures))

pub returns-in-Ok-clause-table : goal.returns-in-Ok-clause-table
returns-in-Ok-clause-table c =
    let l = line_told c.args.group c.args.utc (reading_told c.args.told.now) in
    subst (λ (rows : List Row). IsTable (c.args.counted + 1) rows)
    (put_at l c.args.rows.now.items c.in-Ok.at c.index_mut.result.now c.add.new.self
    (subst (λ (rows : List Row). IsAt l.source rows c.in-Ok.at) c.as_slice.ensures.value c.in-Ok.ensures.found) c.index_mut.ensures.value (simp (to_z-of_z, c.ranges.utc) at c.add.ensures))
    (table_with c.args.counted c.args.rows.now.items l c.requires.table)

pub returns-in-Err-clause-rows : goal.returns-in-Err-clause-rows
returns-in-Err-clause-rows c =
    let l = line_told c.args.group c.args.utc (reading_told c.args.told.now) in
    sym (put_in l c.args.rows.now.items c.insert.new.self.items c.in-Err.at c.of_first.result _
    (subst (λ (rows : List Row). IsGap l.source rows c.in-Err.at) c.as_slice.ensures.value c.in-Err.ensures.absent) (c.insert.ensures.succeeds c.requires.room) (simp (to_z-of_z, c.ranges.utc) at c.of_first.ensures) c.insert.ensures.items)

pub returns-in-Err-clause-table : goal.returns-in-Err-clause-table
returns-in-Err-clause-table c =
    let l = line_told c.args.group c.args.utc (reading_told c.args.told.now) in
    subst (λ (rows : List Row). IsTable (c.args.counted + 1) rows)
    (put_in l c.args.rows.now.items c.insert.new.self.items c.in-Err.at c.of_first.result _
    (subst (λ (rows : List Row). IsGap l.source rows c.in-Err.at) c.as_slice.ensures.value c.in-Err.ensures.absent) (c.insert.ensures.succeeds c.requires.room) (simp (to_z-of_z, c.ranges.utc) at c.of_first.ensures) c.insert.ensures.items)
    (table_with c.args.counted c.args.rows.now.items l c.requires.table)

use Rattle.std.proofs.Common.{sym, subst, arith}
use Rattle.std.proofs.lemmas.Int.{to_z-of_z}
use Rattle.vdr_ais.specs.Tables.{AreShips}
use Rattle.vdr_ais.specs.Views.{report_said}
use Rattle.vdr_ais.proofs.Reported.{still_ships, with_known, with_new}
use Rattle.vdr_ais.proofs.ships.put_report.Goals as goal

pub place_of-requires : goal.place_of-requires
place_of-requires c = rw c.as_slice.ensures.value c.requires.ships

pub returns-in-Ok-clause-with : goal.returns-in-Ok-clause-with
returns-in-Ok-clause-with c =
    let at = rw (c.as_slice.ensures.value, c.mmsi_of-mmsi.ensures) at c.in-Ok.ensures.found in
    with_known c.args.utc c.args.ships.now.items (report_said c.args.report.now) c.in-Ok.at c.index_mut.result.now c.tell.new.self at c.index_mut.ensures.value (simp (to_z-of_z, c.ranges.utc) at c.tell.ensures)

pub returns-in-Ok-clause-ships : goal.returns-in-Ok-clause-ships
returns-in-Ok-clause-ships c =
    let at = rw (c.as_slice.ensures.value, c.mmsi_of-mmsi.ensures) at c.in-Ok.ensures.found in
    subst AreShips
    (sym (with_known c.args.utc c.args.ships.now.items (report_said c.args.report.now) c.in-Ok.at c.index_mut.result.now c.tell.new.self at c.index_mut.ensures.value (simp (to_z-of_z, c.ranges.utc) at c.tell.ensures)))
    (still_ships c.args.utc c.args.ships.now.items (report_said c.args.report.now) c.requires.ships)

pub returns-in-Err-clause-with : goal.returns-in-Err-clause-with
returns-in-Err-clause-with c =
    let gap = rw c.as_slice.ensures.value at c.in-Err.ensures.absent in
    with_new c.args.utc c.args.ships.now.items c.insert.new.self.items (report_said c.args.report.now) c.mmsi_of-mmsi.result c.in-Err.at c.unknown-ship.result c.tell-in-Err.new.self c.insert.result c.requires.ships
    c.mmsi_of-mmsi.ensures gap (c.insert.ensures.succeeds (omega (arith, c.requires.room))) c.unknown-ship.ensures (simp (to_z-of_z, c.ranges.utc) at c.tell-in-Err.ensures) c.insert.ensures.items

pub returns-in-Err-clause-ships : goal.returns-in-Err-clause-ships
returns-in-Err-clause-ships c =
    let gap = rw c.as_slice.ensures.value at c.in-Err.ensures.absent in
    subst AreShips
    (sym (with_new c.args.utc c.args.ships.now.items c.insert.new.self.items (report_said c.args.report.now) c.mmsi_of-mmsi.result c.in-Err.at c.unknown-ship.result c.tell-in-Err.new.self c.insert.result c.requires.ships
    c.mmsi_of-mmsi.ensures gap (c.insert.ensures.succeeds (omega (arith, c.requires.room))) c.unknown-ship.ensures (simp (to_z-of_z, c.ranges.utc) at c.tell-in-Err.ensures) c.insert.ensures.items))
    (still_ships c.args.utc c.args.ships.now.items (report_said c.args.report.now) c.requires.ships)

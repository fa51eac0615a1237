use Rattle.std.proofs.Common.{◌+◌, ◌≤◌, All, length, vec_capacity, vec_len}
use Rattle.vdr_ais.specs.Lines.{lines_in}
use Rattle.vdr_ais.specs.Tables.{AreShips, table_of}
use Rattle.vdr_ais.proofs.Shown.{IsOnWay, PlaceFor, left}
use Rattle.vdr_ais.proofs.table.take_lines.Given as goal

abbrev pub invariant-loop-line : goal.invariant-loop-line
invariant-loop-line l = record {
  way : IsOnWay l.utc (table_of l.initial.unfinished l.initial.ships.items) (table_of l.unfinished l.ships.items) (lines_in l.group l.payload) (left l.group l.line-iterator);
  places : All (PlaceFor l.unfinished) (left l.group l.line-iterator);
  ships : AreShips l.ships.items;
  room : vec_len l.ships + length (left l.group l.line-iterator) ≤ vec_capacity l.ships;
}

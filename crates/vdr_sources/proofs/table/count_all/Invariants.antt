use Rattle.std.proofs.Common.{◌≡◌, ◌≤◌, ◌+◌, fold, length, map, vec_capacity, vec_len}
use Rattle.vdr_datagram.specs.Views.{span_of}
use Rattle.vdr_durability.specs.Sources.{with_line}
use Rattle.vdr_sources.specs.Rows.{IsTable}
use Rattle.vdr_sources.proofs.Lines.{counted_as}
use Rattle.vdr_sources.proofs.table.count_all.Given as goal

abbrev pub invariant-loop-line : goal.invariant-loop-line
invariant-loop-line l = record {
  rows : l.rows.items ≡ fold with_line l.initial.rows.items (map (counted_as l.group l.utc) (map span_of l.yielded));
  table : IsTable l.counted l.rows.items;
  counted : l.counted ≡ l.fn.counted + length l.yielded;
  room : vec_len l.rows ≤ vec_len l.initial.rows + length l.yielded;
  capacity : vec_capacity l.initial.rows ≤ vec_capacity l.rows;
}

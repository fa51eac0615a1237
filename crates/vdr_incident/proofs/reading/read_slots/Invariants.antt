use Rattle.std.proofs.Common.{◌≡◌, length}
use Rattle.vdr_outside.specs.Causes.{NoneFalls}
use Rattle.vdr_outside.specs.Disk.{Unchanged, content}
use Rattle.vdr_incident.specs.Tables.{HoldsTable, counted_slots}
use Rattle.vdr_incident.proofs.reading.read_slots.Given as goal

abbrev pub invariant-loop-slot : goal.invariant-loop-slot
invariant-loop-slot g l = record {
  unchanged : Unchanged (g.M.Media.disk l.fn.media) (g.M.Media.disk l.media);
  later : NoneFalls (g.M.Media.faults l.fn.media) (g.M.Media.faults l.media);
  size : length l.saves.items ≡ l.slot;
  counts : g.M.Media.bytes_read l.media ≡ counted_slots (g.M.Media.bytes_read l.fn.media) l.slot;
  told : g.M.Media.tells → HoldsTable l.slot l.saves.items (content (g.M.Media.disk l.fn.media).reads 1);
}

use Rattle.std.proofs.Common.{◌≡◌, ◌≤◌, ◌*◌, length}
use Rattle.vdr_outside.specs.Causes.{NoneFalls}
use Rattle.vdr_outside.specs.Disk.{Unchanged, content}
use Rattle.vdr_directory.specs.Costs.{ReadsAtMost}
use Rattle.vdr_rescue.specs.Saves.{AreSaves}
use Rattle.vdr_rescue.proofs.saves.read_saves.Given as goal

abbrev pub invariant-loop-slot : goal.invariant-loop-slot
invariant-loop-slot g l = record {
  unchanged : Unchanged (g.M.Media.disk l.fn.media) (g.M.Media.disk l.media);
  later : NoneFalls (g.M.Media.faults l.fn.media) (g.M.Media.faults l.media);
  counts : ReadsAtMost 1 (256 * l.slot) (g.M.Media.bytes_read l.fn.media) (g.M.Media.bytes_read l.media);
  table : length l.saves.table ≡ l.slot;
  pins : length l.saves.pins ≤ l.slot;
  bad : length l.saves.bad ≤ l.slot;
  told : g.M.Media.tells → AreSaves (content (g.M.Media.disk l.fn.media).reads 1) l.slot l.saves;
}

use Rattle.std.proofs.Common.{◌≤◌, ◌*◌}
use Rattle.vdr_outside.specs.Causes.{NoneFalls}
use Rattle.vdr_outside.specs.Disk.{Unchanged, content}
use Rattle.vdr_directory.specs.Costs.{ReadsAtMost}
use Rattle.vdr_info.specs.Used.{AreUsed}
use Rattle.vdr_info.proofs.slots.count_used.Given as goal

abbrev pub invariant-loop-slot : goal.invariant-loop-slot
invariant-loop-slot g l = record {
  unchanged : Unchanged (g.M.Media.disk l.fn.media) (g.M.Media.disk l.media);
  later : NoneFalls (g.M.Media.faults l.fn.media) (g.M.Media.faults l.media);
  counts : ReadsAtMost l.area.medium (64 * l.slot) (g.M.Media.bytes_read l.fn.media) (g.M.Media.bytes_read l.media);
  few : l.used ≤ l.slot;
  shown : g.M.Media.tells → AreUsed l.area.segment (content (g.M.Media.disk l.fn.media).reads l.area.medium) l.slot l.used;
}

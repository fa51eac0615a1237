use Rattle.std.proofs.Common.{◌*◌, map}
use Rattle.vdr_outside.specs.Causes.{NoneFalls}
use Rattle.vdr_outside.specs.Disk.{Unchanged, content}
use Rattle.vdr_directory.specs.Entries.{slot_of}
use Rattle.vdr_directory.specs.Costs.{ReadsAtMost}
use Rattle.vdr_directory.specs.Fronts.{AreSlots, Ascends, TellFronts}
use Rattle.vdr_directory.proofs.fronts.read_fronts.Given as goal

abbrev pub invariant-loop-slot : goal.invariant-loop-slot
invariant-loop-slot g l = record {
  unchanged : Unchanged (g.M.Media.disk l.fn.media) (g.M.Media.disk l.media);
  later : NoneFalls (g.M.Media.faults l.fn.media) (g.M.Media.faults l.media);
  counts : ReadsAtMost l.area.medium (64 * l.slot) (g.M.Media.bytes_read l.fn.media) (g.M.Media.bytes_read l.media);
  slots : AreSlots l.slot l.opened.items;
  ascends : Ascends (map slot_of l.opened.items);
  told : g.M.Media.tells → TellFronts l.area.segment l.slot (content (g.M.Media.disk l.fn.media).reads l.area.medium) l.opened.items;
}

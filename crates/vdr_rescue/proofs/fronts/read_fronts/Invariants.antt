use Rattle.std.proofs.Common.{◌<◌, ◌≤◌, ◌*◌, All}
use Rattle.vdr_outside.specs.Causes.{NoneFalls}
use Rattle.vdr_outside.specs.Disk.{Unchanged, content}
use Rattle.vdr_directory.specs.Costs.{ReadsAtMost}
use Rattle.vdr_rescue.specs.Fronts.{AreFronts}
use Rattle.vdr_rescue.proofs.fronts.read_fronts.Given as goal

abbrev pub invariant-loop-slot : goal.invariant-loop-slot
invariant-loop-slot g l = record {
  unchanged : Unchanged (g.M.Media.disk l.fn.media) (g.M.Media.disk l.media);
  later : NoneFalls (g.M.Media.faults l.fn.media) (g.M.Media.faults l.media);
  counts : ReadsAtMost l.area.medium (64 * l.slot) (g.M.Media.bytes_read l.fn.media) (g.M.Media.bytes_read l.media);
  slots : All (λ head. head.slot < l.area.slots) l.fronts.heads;
  few : l.fronts.closed ≤ l.slot;
  shown : g.M.Media.tells → AreFronts l.area.segment (content (g.M.Media.disk l.fn.media).reads l.area.medium) l.slot l.fronts;
}

use Rattle.std.proofs.Common.{◌≡◌, List, length, replicate, None}
use Rattle.vdr_outside.specs.Causes.{NoneFalls}
use Rattle.vdr_outside.specs.Disk.{content}
use Rattle.vdr_segment.specs.Slots.{HoldsSlots, SameFront}
use Rattle.vdr_media.specs.Writing.{WritesBehindGate}
use Rattle.vdr_directory.specs.Sequence.{Placed}
use Rattle.vdr_remake.specs.Copies.{Hold}
use Rattle.vdr_remake.proofs.Copies.{so_far}
use Rattle.vdr_remake.proofs.copying.copy_all.Given as goal

abbrev pub invariant-loop-i : goal.invariant-loop-i
invariant-loop-i g l = record {
  writes : WritesBehindGate l.to.medium (g.M.Media.disk l.fn.media) (g.M.Media.disk l.media);
  copied : g.M.Media.tells → (placed : List Placed) → Hold l.from.segment (content (g.M.Media.disk l.fn.media).reads l.from.medium) l.entries placed
      → HoldsSlots l.to.segment (replicate l.to.slots None) (content (g.M.Media.disk l.fn.media).reads l.to.medium)
      → HoldsSlots l.to.segment (so_far l.to.slots l.i placed) (content (g.M.Media.disk l.media).reads l.to.medium);
  front : g.M.Media.tells → SameFront (content (g.M.Media.disk l.fn.media).reads l.to.medium) (content (g.M.Media.disk l.media).reads l.to.medium);
  whole : length l.buffer ≡ l.from.segment;
  cause : NoneFalls (g.M.Media.faults l.fn.media) (g.M.Media.faults l.media);
}

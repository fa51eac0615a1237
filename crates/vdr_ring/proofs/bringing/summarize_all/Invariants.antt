use Rattle.std.proofs.Common.{◌≡◌, List, drop}
use Rattle.vdr_outside.specs.Causes.{NoneFalls}
use Rattle.vdr_outside.specs.Disk.{Durable, SameBut}
use Rattle.vdr_outside.specs.Moments.{ChangesOnly}
use Rattle.vdr_segment.specs.Writes.{KeepsFront}
use Rattle.vdr_directory.specs.Sequence.{Placed}
use Rattle.vdr_ring.specs.Bringing.{HoldsAlike, StandsAlike}
use Rattle.vdr_ring.proofs.bringing.summarize_all.Given as goal

abbrev pub invariant-loop-slot : goal.invariant-loop-slot
invariant-loop-slot g l = record {
  brought : (placed : List Placed) → g.M.Media.tells → StandsAlike l.area.medium l.area.segment l.area.slots placed l.directory l.bare (g.M.Media.disk l.fn.media)
      → ChangesOnly l.area.medium (HoldsAlike l.area.segment l.area.slots placed) (g.M.Media.disk l.fn.media) (g.M.Media.disk l.media)
      × StandsAlike l.area.medium l.area.segment l.area.slots placed l.directory (drop l.slot-index l.bare) (g.M.Media.disk l.media);
  front : KeepsFront l.area.medium (g.M.Media.disk l.fn.media) (g.M.Media.disk l.media);
  durable : Durable l.area.medium (g.M.Media.disk l.fn.media) → Durable l.area.medium (g.M.Media.disk l.media);
  others : g.M.Media.tells → SameBut l.area.medium (g.M.Media.disk l.fn.media).reads (g.M.Media.disk l.media).reads;
  sizes : (g.M.Media.disk l.media).sizes ≡ (g.M.Media.disk l.fn.media).sizes;
  counts : g.M.Media.bytes_read l.media ≡ g.M.Media.bytes_read l.fn.media;
  cause : NoneFalls (g.M.Media.faults l.fn.media) (g.M.Media.faults l.media);
}

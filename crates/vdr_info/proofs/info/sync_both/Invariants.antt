use Rattle.std.proofs.Common.{◌≡◌, ◌<◌, ℕ}
use Rattle.vdr_outside.specs.Causes.{NoneFalls}
use Rattle.vdr_outside.specs.Disk.{Durable}
use Rattle.vdr_outside.specs.Moments.{AtEachMoment}
use Rattle.vdr_info.proofs.info.sync_both.Given as goal

abbrev pub invariant-loop-m : goal.invariant-loop-m
invariant-loop-m g l = record {
  durable : (k : ℕ) → k < l.m → Durable k (g.M.Media.disk l.media);
  reads : g.M.Media.tells → (g.M.Media.disk l.media).reads ≡ (g.M.Media.disk l.fn.media).reads;
  moments : AtEachMoment (g.M.Media.disk l.fn.media) (g.M.Media.disk l.media) (λ i. (g.M.Media.disk l.fn.media).now i);
  sizes : (g.M.Media.disk l.media).sizes ≡ (g.M.Media.disk l.fn.media).sizes;
  counts : g.M.Media.bytes_read l.media ≡ g.M.Media.bytes_read l.fn.media;
  later : NoneFalls (g.M.Media.faults l.fn.media) (g.M.Media.faults l.media);
}

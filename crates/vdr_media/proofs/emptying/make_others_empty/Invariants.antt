use Rattle.std.proofs.Common.{◌≡◌, ◌⊎◌, ◌<◌, ◌≤◌, ℕ}
use Rattle.vdr_outside.specs.Causes.{NoneFalls}
use Rattle.vdr_outside.specs.Disk.{content}
use Rattle.vdr_outside.specs.Moments.{AtEachMoment, Settled}
use Rattle.vdr_media.specs.Medium.{IsEmptyMedium}
use Rattle.vdr_media.specs.Writing.{SameBesides}
use Rattle.vdr_media.proofs.emptying.make_others_empty.Given as goal

abbrev pub invariant-loop-m : goal.invariant-loop-m
invariant-loop-m g l = record {
  moments : AtEachMoment (g.M.Media.disk l.fn.media) (g.M.Media.disk l.media) (SameBesides 1 l.fn.count (g.M.Media.disk l.fn.media).now);
  made : (k : ℕ) → l.m ≤ k → k < l.fn.count → Settled k (IsEmptyMedium k l.fn.config l.fn.text) (g.M.Media.disk l.media);
  others : g.M.Media.tells → (k : ℕ) → (k < 1) ⊎ (l.fn.count ≤ k) → content (g.M.Media.disk l.media).reads k ≡ content (g.M.Media.disk l.fn.media).reads k;
  sizes : (g.M.Media.disk l.media).sizes ≡ (g.M.Media.disk l.fn.media).sizes;
  counts : g.M.Media.bytes_read l.media ≡ g.M.Media.bytes_read l.fn.media;
  later : NoneFalls (g.M.Media.faults l.fn.media) (g.M.Media.faults l.media);
}

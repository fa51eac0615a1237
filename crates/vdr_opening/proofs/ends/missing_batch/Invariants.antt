use Rattle.std.proofs.Common.{◌≡◌, ◌≤◌, ℕ, List, All}
use Rattle.vdr_outside.specs.Causes.{NoneFalls}
use Rattle.vdr_directory.specs.Sequence.{Placed}
use Rattle.vdr_ring.specs.Rings.{HoldsNewest}
use Rattle.vdr_opening.specs.Answers.{members_on, ring_at}
use Rattle.vdr_opening.specs.Parts.{AreKnownTo, KeepsRings}
use Rattle.vdr_opening.proofs.Meeting.{EndBelow}
use Rattle.vdr_opening.proofs.ends.missing_batch.Given as goal

abbrev pub invariant-loop-m : goal.invariant-loop-m
invariant-loop-m g l = record {
  some : 1 ≤ l.lacking;
  within : l.lacking ≤ l.m;
  kept : KeepsRings l.fn.rings l.rings (g.M.Media.disk l.fn.media) (g.M.Media.disk l.media);
  ends : g.M.Media.tells → (known : ℕ → List Placed) → AreKnownTo l.fn.rings known (g.M.Media.disk l.fn.media) → EndBelow l.batch.items l.lacking l.m known;
  waiting : (k : ℕ) → l.m ≤ k → ring_at l.rings k ≡ ring_at l.fn.rings k;
  unread : All (λ k. HoldsNewest (ring_at l.fn.rings k)) (members_on l.fn.rings) → g.M.Media.bytes_read l.media ≡ g.M.Media.bytes_read l.fn.media;
  later : NoneFalls (g.M.Media.faults l.fn.media) (g.M.Media.faults l.media);
}

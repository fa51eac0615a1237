use Rattle.std.proofs.Common.{◌≤◌, ◌<◌, ℕ, List, length}
use Rattle.vdr_directory.specs.Sequence.{Placed}
use Rattle.vdr_ring.specs.Rings.{Reads}
use Rattle.vdr_opening.specs.Answers.{AreJudgedOn, ring_at}
use Rattle.vdr_vault.specs.Passes.{KeepsBeside}
use Rattle.vdr_vault.proofs.Brought.{Brings}
use Rattle.vdr_vault.proofs.bringing.bring_up_all.Given as goal

abbrev pub invariant-loop-m : goal.invariant-loop-m
invariant-loop-m g l = record {
  high : l.m ≤ length l.fn.rings;
  keeps : KeepsBeside g.M.Media 0 l.fn.rings l.rings l.fn.media l.media;
  judged : AreJudgedOn l.fn.rings (g.M.Media.disk l.fn.media) → AreJudgedOn l.rings (g.M.Media.disk l.media);
  brings : (placed : ℕ → List Placed) → g.M.Media.tells → ((k : ℕ) → k < length l.fn.rings → Reads (ring_at l.fn.rings k) (placed k) (g.M.Media.disk l.fn.media))
      → Brings l.fn.rings placed (g.M.Media.disk l.fn.media) l.m l.rings (g.M.Media.disk l.media);
}

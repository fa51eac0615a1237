use Rattle.std.proofs.Common.{◌≤◌, ◌<◌, ℕ, Bool, List, length}
use Rattle.vdr_terms.specs.Needs.{Sizes}
use Rattle.vdr_terms.specs.Records.{Record}
use Rattle.vdr_directory.specs.Sequence.{Placed}
use Rattle.vdr_opening.specs.Answers.{AreJudgedOn}
use Rattle.vdr_vault.specs.Passes.{KeepsBeside}
use Rattle.vdr_vault.proofs.Passed.{WaitsAt, Walks}
use Rattle.vdr_vault.proofs.appending.append_from.Given as goal

abbrev pub invariant-loop-m : goal.invariant-loop-m
invariant-loop-m g l = record {
  low : l.fn.from ≤ l.m;
  high : l.m ≤ length l.fn.rings;
  keeps : KeepsBeside g.M.Media l.fn.from l.fn.rings l.rings l.fn.media l.media;
  judged : AreJudgedOn l.fn.rings (g.M.Media.disk l.fn.media) → AreJudgedOn l.rings (g.M.Media.disk l.media);
  walks : (ordered : Bool) (sizes : Sizes) (placed : ℕ → List Placed) (first : ℕ) (all : ℕ → List Record) → g.M.Media.tells
      → ((k : ℕ) → l.fn.from ≤ k → k < length l.fn.rings → WaitsAt ordered sizes l.fn.from l.fn.rings l.fn.pins placed first all l.fn.records (g.M.Media.disk l.fn.media) k (g.M.Media.disk l.fn.media))
      → Walks ordered sizes l.fn.from l.fn.rings l.fn.pins placed first all l.fn.records (g.M.Media.disk l.fn.media) l.m l.rings (g.M.Media.disk l.media);
}

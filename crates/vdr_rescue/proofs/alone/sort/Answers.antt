use Rattle.std.proofs.Common.{rules}
use Rattle.std.proofs.lemmas.Fn.{always_returns_same}
use Rattle.vdr_rescue.specs.declared.fronts.Head.{Head}
use Rattle.vdr_rescue.proofs.alone.sort.Goals as goal

pub returns : goal.returns
returns c = record {
  moved = c.sort_unstable_by_key.ensures.permutation;
  sorted = c.sort_unstable_by_key.ensures.sorted (λ (h : Head). (h.first, h.seq, h.slot)) (always_returns_same _ _ _ (λ a r q k. search rules));
}

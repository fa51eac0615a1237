use Rattle.std.proofs.Common.{ap, arith}
use Rattle.std.proofs.lemmas.Int.{ints}
use Rattle.vdr_index.specs.declared.head.Head.{Head}
use Rattle.vdr_index.proofs.StretchLemmas.{mark_by}
use Rattle.vdr_index.proofs.stretch.mark_at.Goals as goal

pub returns : goal.returns
returns c =
    let h = c.head_at-head.ensures in
    let stamp = h.2.legal.utc in
    let utc = ap (λ (x : Head). x.utc) h.3 in (
      h.0,
      h.1,
      h.2,
      mark_by _ _ _ _ _ _ (ap (λ (x : Head). x.place) h.3) (ap (λ (x : Head). x.tick) h.3) (omega (arith, ints, stamp.whole, stamp.in_time, utc)),
      c.summary_of_one-summary.ensures h.0 (ap (λ (x : Head). x.tick) h.3) (omega (arith, ints, stamp.whole, stamp.in_time, utc)) (ap (λ (x : Head). x.bits) h.3),
      ap (λ (x : Head). x.size) h.3,
    )

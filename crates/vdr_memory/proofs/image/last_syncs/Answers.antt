use Rattle.std.proofs.Common.{◌≡◌, ◌+◌, ℕ, List, length, refl, sym, ◌∙◌, ap, subst, arith, length-set}
use Rattle.vdr_memory.specs.Images.{IsLast}
use Rattle.vdr_memory.proofs.Images.{zeros, last_more, last_same}
use Rattle.vdr_memory.proofs.image.last_syncs.Goals as goal
use Rattle.vdr_memory.proofs.image.last_syncs.Goals.{then-is_done_sync, else-is_done_sync}

pub loop-index-init : goal.loop-index-init
loop-index-init c = record {
  names = refl;
  last = record { covers = λ k d below is. absurd (omega (arith, below)); exact = λ m k d is. absurd (omega (arith, is, zeros 256 m)) };
}

pub loop-index-preserved : goal.loop-index-preserved
loop-index-preserved c =
    let calls = c.args.calls.now in
    let i = c.loop-index.index in
    elim c.if-is_done_sync.branch [
      | then-is_done_sync w ↦
          let more = last_more calls i c.loop-index.last _ c.loop-index-test.true (sym c.is_done_sync.ensures ∙ w.if-is_done_sync.true) (omega arith) c.loop-index.invariant.last in
          record {
            names = ap (λ (l : List ℕ). length l) w.last-is ∙ length-set c.loop-index.last _ (i + 1) ∙ c.loop-index.invariant.names;
            last = subst (λ (l : List ℕ). IsLast calls (i + 1) l) (sym w.last-is) more;
          }
      | else-is_done_sync w ↦
          record {
            names = ap (λ (l : List ℕ). length l) w.last-is ∙ c.loop-index.invariant.names;
            last = subst (λ (l : List ℕ). IsLast calls (i + 1) l) (sym w.last-is) (last_same calls i c.loop-index.last _ c.loop-index-test.true (sym c.is_done_sync.ensures ∙ w.if-is_done_sync.false) c.loop-index.invariant.last);
          }
    ]

pub returns : goal.returns
returns c = let all : c.loop-index.index ≡ length c.args.calls.now = omega arith in subst (λ (n : ℕ). IsLast c.args.calls.now n c.loop-index.last) all c.loop-index.invariant.last

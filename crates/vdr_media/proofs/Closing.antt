-- One gate more is closed.
use Rattle.std.proofs.Common.{◌≡◌, ◌≢◌, ◌⊎◌, inl, inr, ℕ, ◌+◌, ◌*◌, ◌<◌, ◌≤◌, List, [], ◌∷◌, length, slice_get, Option, Some, sym, ◌∙◌, subst, arith, below_more}
use Rattle.std.proofs.Math.Nat.{mul-le-mul_right}
use Rattle.vdr_outside.specs.Disk.{over}
use Rattle.vdr_outside.proofs.Bytes.{length-over, le_or_gt}
use Rattle.vdr_segment.specs.Gates.{open_gate}
use Rattle.vdr_media.specs.Layout.{IsClosedAt}
use Rattle.vdr_media.specs.Writing.{ClosesGates, HasClosedGates}
use Rattle.vdr_media.proofs.Positions.{at_other, at_one}

pub closed_by : (old new : List ℕ) (p : ℕ) → slice_get new p ≡ slice_get old p → IsClosedAt old p → IsClosedAt new p
closed_by old new p same closed opened = closed (sym same ∙ opened)

zero_is_closed : ◌≡◌ {A = Option ℕ} (Some 0) (Some open_gate) → ⊥
zero_is_closed e = let none : ◌≡◌ {A = ℕ} 0 165 = cc in absurd (omega (arith, none))

pub closes_more : (from step k at : ℕ) (old now : List ℕ) → 1 ≤ step → at ≡ from + k * step → at < length now → ClosesGates from step k old now → ClosesGates from step (k + 1) old (over now at (0 ∷ []))
closes_more from step k at old now apart is lt so_far = record {
  size = length-over now at (0 ∷ []) ∙ so_far.size;
  closed = record { each = below_more _ k earlier here };
  rest = λ p none.
      let ne : p ≢ at = λ e. none k (omega arith) (e ∙ is) in
      at_other now at (0 ∷ []) p (elsewhere p ne) ∙ so_far.rest p (λ i below. none i (omega (arith, below)));
}
  where
    here : IsClosedAt (over now at (0 ∷ [])) (from + k * step)
    here = subst (λ (p : ℕ). IsClosedAt (over now at (0 ∷ [])) p) is (λ opened. zero_is_closed (sym (at_one now at 0 lt) ∙ opened))

    earlier : (i : ℕ) → i < k → IsClosedAt (over now at (0 ∷ [])) (from + i * step)
    earlier i below =
        let le : (i + 1) * step ≤ k * step = mul-le-mul_right step (omega (arith, below)) in
        closed_by now (over now at (0 ∷ [])) (from + i * step) (at_other now at (0 ∷ []) (from + i * step) (inl (omega (arith, le, is, apart)))) (so_far.closed.each i below)

    elsewhere : (p : ℕ) → p ≢ at → (p < at) ⊎ (at + 1 ≤ p)
    elsewhere p ne = elim (le_or_gt at p) [ inl le ↦ inr (omega (arith, le, ne)) | inr lt ↦ inl lt ]

-- the gates of slots, and then those of the incident slots, which stand before them
pub closes_all : (segment slots : ℕ) (b b1 b2 : List ℕ) → ClosesGates 32768 segment slots b b1 → ClosesGates 4096 256 32 b1 b2 → HasClosedGates segment slots b2
closes_all segment slots b b1 b2 first second = record {
  segments = record {
    each = λ k lt. closed_by b1 b2 (32768 + k * segment) (second.rest (32768 + k * segment) (λ i below e. omega (arith, e, below))) (first.closed.each k lt);
  };
  incidents = second.closed;
}

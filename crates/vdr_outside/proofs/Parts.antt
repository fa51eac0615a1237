-- A write changes the part that it stands in, and no other.
use Rattle.std.proofs.Common.{◌≡◌, ◌≢◌, ◌⊎◌, inl, inr, ℕ, zero, suc, ◌+◌, ◌-◌, ◌*◌, ◌<◌, ◌≤◌, List, [], ◌∷◌, length, get_or, set, take, drop, refl, sym, ◌∙◌, ap, subst, arith, length-set, get_or-set_same, get_or-set_other}
use Rattle.std.proofs.Math.Nat.{mul-le-mul_right}
use Rattle.std.proofs.lemmas.Bool.{cases_eq}
use Rattle.vdr_outside.specs.Disk.{over}
use Rattle.vdr_outside.specs.Parts.{part, Slots}
use Rattle.vdr_outside.proofs.Bytes.{le_or_gt}

over_drop : (b : List ℕ) (from k at : ℕ) (x : List ℕ) → at ≡ from + k → drop from (over b at x) ≡ over (drop from b) k x
over_drop b zero k at x is = let same : at ≡ k = omega arith in ap (λ (a : ℕ). over b a x) same
over_drop [] (suc from) k at x is = refl
over_drop (y ∷ b) (suc from) k zero x is = absurd (omega arith)
over_drop (y ∷ b) (suc from) k (suc at) x is = over_drop b from k at x (omega arith)

over_take : (n : ℕ) (b : List ℕ) (k : ℕ) (x : List ℕ) → k + length x ≤ n → take n (over b k x) ≡ over (take n b) k x
over_take zero b k x fits = refl
over_take (suc n) [] k x fits = refl
over_take (suc n) (y ∷ b) (suc k) x fits = ap (λ (l : List ℕ). y ∷ l) (over_take n b k x (omega arith))
over_take (suc n) (y ∷ b) zero [] fits = refl
over_take (suc n) (y ∷ b) zero (z ∷ x) fits = ap (λ (l : List ℕ). z ∷ l) (over_take n b zero x (omega arith))

over_take_below : (n : ℕ) (b : List ℕ) (k : ℕ) (x : List ℕ) → n ≤ k → take n (over b k x) ≡ take n b
over_take_below zero b k x le = refl
over_take_below (suc n) [] k x le = refl
over_take_below (suc n) (y ∷ b) zero x le = absurd (omega arith)
over_take_below (suc n) (y ∷ b) (suc k) x le = ap (λ (l : List ℕ). y ∷ l) (over_take_below n b k x (omega arith))

over_drop_above : (b : List ℕ) (at : ℕ) (x : List ℕ) (from : ℕ) → at + length x ≤ from → drop from (over b at x) ≡ drop from b
over_drop_above [] at x from le = refl
over_drop_above (y ∷ b) (suc at) x zero le = absurd (omega arith)
over_drop_above (y ∷ b) (suc at) x (suc from) le = over_drop_above b at x from (omega arith)
over_drop_above (y ∷ b) zero [] from le = refl
over_drop_above (y ∷ b) zero (z ∷ x) zero le = absurd (omega arith)
over_drop_above (y ∷ b) zero (z ∷ x) (suc from) le = over_drop_above b zero x from (omega arith)

-- the part that a write stands in, at k from its beginning
pub part_over : (b : List ℕ) (from n k at : ℕ) (x : List ℕ) → at ≡ from + k → k + length x ≤ n → part (over b at x) from n ≡ over (part b from n) k x
part_over b from n k at x is fits = ap (λ (l : List ℕ). take n l) (over_drop b from k at x is) ∙ over_take n (drop from b) k x fits

-- a part before a write, or behind it
pub part_other : (b : List ℕ) (from n at : ℕ) (x : List ℕ) → (from + n ≤ at) ⊎ (at + length x ≤ from) → part (over b at x) from n ≡ part b from n
part_other b from n at x (inl before) = ap (λ (l : List ℕ). take n l) (over_drop b from (at - from) at x (omega arith)) ∙ over_take_below n (drop from b) (at - from) x (omega arith)
part_other b from n at x (inr behind) = ap (λ (l : List ℕ). take n l) (over_drop_above b at x from behind)

apart : (i j size : ℕ) → i < j → i * size + size ≤ j * size
apart i j size lt = let le : (i + 1) * size ≤ j * size = mul-le-mul_right size (omega arith) in omega (arith, le)

-- a write within one slot, at k from its beginning
pub slots_over : {S : Type 0} (Is : List ℕ → S → Type 0) (base size : ℕ) (slots : List S) (b : List ℕ) (j k at : ℕ) (x : List ℕ) (s : S) → Slots Is base size slots b → j < length slots → at ≡ base + j * size + k → k + length x ≤ size
    → Is (over (part b (base + j * size) size) k x) s → Slots Is base size (set slots j s) (over b at x)
slots_over {S} Is base size slots b j k at x s old lt is fits here = record {
  each = λ i d below. elim (cases_eq i j) [
    | inl same ↦ subst (λ (n : ℕ). Is (part (over b at x) (base + n * size) size) (get_or (set slots j s) n d)) (sym same)
        (subst (λ (l : List ℕ). Is l (get_or (set slots j s) j d)) (sym (part_over b (base + j * size) size k at x is fits)) (subst (λ (t : S). Is (over (part b (base + j * size) size) k x) t) (sym (get_or-set_same slots j s d lt)) here))
    | inr other ↦
        let within : i < length slots = omega (arith, below, length-set slots j s) in
        let elsewhere : (base + i * size + size ≤ at) ⊎ (at + length x ≤ base + i * size) = beside i other in
        subst (λ (l : List ℕ). Is l (get_or (set slots j s) i d)) (sym (part_other b (base + i * size) size at x elsewhere)) (subst (λ (t : S). Is (part b (base + i * size) size) t) (sym (get_or-set_other slots j i s d other)) (old.each i d within))
  ];
}
  where
    beside : (i : ℕ) → i ≢ j → (base + i * size + size ≤ at) ⊎ (at + length x ≤ base + i * size)
    beside i other = elim (le_or_gt j i) [
      | inl le ↦ inr (omega (arith, is, fits, apart j i size (omega (arith, le, other))))
      | inr lt ↦ inl (omega (arith, is, apart i j size lt))
    ]

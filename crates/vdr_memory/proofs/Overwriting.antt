-- Bytes in place of others, where some of them may stand past the end.
use Rattle.std.proofs.Common.{◌≡◌, inl, inr, ℕ, zero, suc, ◌+◌, ◌-◌, ◌≤◌, min, List, [], ◌∷◌, ◌++◌, length, set, take, drop, refl, sym, ◌∙◌, ap, arith, length-append}
use Rattle.std.proofs.lemmas.List.{length-take, take_min, take_all, drop_all, append-nil}
use Rattle.vdr_outside.specs.Disk.{Image, Overwritten, content, over, written}
use Rattle.vdr_outside.proofs.Bytes.{over_parts, le_or_gt}
use Rattle.vdr_memory.specs.Laws.{filled, length-filled, over-filled}

-- What would stand past the end is lost.
pub over_front : (b : List ℕ) (at k : ℕ) (x : List ℕ) → length b ≤ at + k → over b at x ≡ over b at (take k x)
over_front [] at k x fits = refl
over_front (y ∷ b) (suc at) k x fits = ap (λ (l : List ℕ). y ∷ l) (over_front b at k x (omega arith))
over_front (y ∷ b) zero zero x fits = absurd (omega arith)
over_front (y ∷ b) zero (suc k) [] fits = refl
over_front (y ∷ b) zero (suc k) (z ∷ x) fits = ap (λ (l : List ℕ). z ∷ l) (over_front b zero k x (omega arith))

pub over_past : (b : List ℕ) (at : ℕ) (x : List ℕ) → length b ≤ at → over b at x ≡ b
over_past [] at x past = refl
over_past (y ∷ b) zero x past = absurd (omega arith)
over_past (y ∷ b) (suc at) x past = ap (λ (l : List ℕ). y ∷ l) (over_past b at x (omega arith))

pub over_nothing : (b : List ℕ) (at : ℕ) → over b at [] ≡ b
over_nothing [] at = refl
over_nothing (y ∷ b) zero = refl
over_nothing (y ∷ b) (suc at) = ap (λ (l : List ℕ). y ∷ l) (over_nothing b at)

-- As the code writes it: a front of the bytes, as far as there is room behind the position or the end.
pub parts_over : (b : List ℕ) (at from count n : ℕ) (x : List ℕ) → from ≡ min (length b) at → count ≡ min (length b - from) (length x) → n ≡ count
    → take from b ++ (take count x ++ drop n (drop from b)) ≡ over b at x
parts_over b at from count n x from_is count_is n_is = elim (le_or_gt at (length b)) [
  | inl within ↦
      let here : from ≡ at = omega arith in
      let front : take count x ≡ take (length b - at) x = ap (λ (k : ℕ). take k x) (omega arith) ∙ take_min (length b - at) x in
      let long : n ≡ length (take count x) = omega (arith, length-take count x) in
      ap (λ (k : ℕ). take from b ++ (take count x ++ drop k (drop from b))) long
      ∙ ap (λ (k : ℕ). take k b ++ (take count x ++ drop (length (take count x)) (drop k b))) here
      ∙ over_parts b at (take count x) (omega (arith, length-take count x))
      ∙ ap (λ (l : List ℕ). over b at l) front
      ∙ sym (over_front b at (length b - at) x (omega arith))
  | inr past ↦
      let none : count ≡ 0 = omega arith in
      let whole : take from b ≡ b = take_all from b (omega arith) in
      let rest : drop from b ≡ [] = drop_all from b (omega arith) in
      ap (λ (l : List ℕ). l ++ (take count x ++ drop n (drop from b))) whole
      ∙ ap (λ (k : ℕ). b ++ (take k x ++ drop n (drop from b))) none
      ∙ ap (λ (l : List ℕ). b ++ drop n l) rest
      ∙ ap (λ (l : List ℕ). b ++ l) (drop_all n [] (omega arith))
      ∙ append-nil b
      ∙ sym (over_past b at x (omega arith))
]

-- Bytes behind others are put behind them.
pub over_append : (b : List ℕ) (at : ℕ) (x z : List ℕ) (k : ℕ) → k ≡ at + length x → over b at (x ++ z) ≡ over (over b at x) k z
over_append [] at x z k is = refl
over_append (y ∷ b) (suc at) x z zero is = absurd (omega arith)
over_append (y ∷ b) (suc at) x z (suc k) is = ap (λ (l : List ℕ). y ∷ l) (over_append b at x z k (omega arith))
over_append (y ∷ b) zero [] z zero is = refl
over_append (y ∷ b) zero [] z (suc k) is = absurd (omega arith)
over_append (y ∷ b) zero (w ∷ x) z zero is = absurd (omega arith)
over_append (y ∷ b) zero (w ∷ x) z (suc k) is = ap (λ (l : List ℕ). w ∷ l) (over_append b zero x z k (omega arith))

-- Bytes at the front of a range, behind which the old ones stay.
pub overwritten_front : (from : Image → Type 0) (i : Image) (m at n : ℕ) (x : List ℕ) → length x ≤ n → from i → Overwritten m at n from (written i m at x)
overwritten_front from i m at n x fits was =
    let b = over (content i m) at x in
    let rest = filled b (at + length x) (n - length x) in
    record {
      image = i;
      was = was;
      bytes = x ++ rest;
      size = length-append x rest ∙ omega (arith, length-filled b (at + length x) (n - length x));
      is = ap (λ (l : List ℕ). set i m l) (sym (over_append (content i m) at x rest (at + length x) refl ∙ over-filled b (at + length x) (n - length x)));
    }

-- What stands at a position after a write.
use Rattle.std.proofs.Common.{◌≡◌, ◌⊎◌, inl, inr, ⊎_elim, ℕ, zero, suc, ◌+◌, ◌<◌, ◌≤◌, List, [], ◌∷◌, length, slice_get, Some, drop, refl, ◌∙◌, ap, arith, length-drop}
use Rattle.std.proofs.lemmas.List.{length-take-le}
use Rattle.vdr_outside.specs.Disk.{over}
use Rattle.vdr_outside.specs.Parts.{part}
use Rattle.vdr_outside.proofs.Parts.{part_over}

-- a position that the write does not reach
pub at_other : (b : List ℕ) (at : ℕ) (x : List ℕ) (p : ℕ) → (p < at) ⊎ (at + length x ≤ p) → slice_get (over b at x) p ≡ slice_get b p
at_other [] at x p beside = refl
at_other (y ∷ b) (suc at) x zero beside = refl
at_other (y ∷ b) (suc at) x (suc p) beside = at_other b at x p (⊎_elim (λ lt. inl (omega (arith, lt))) (λ le. inr (omega (arith, le))) beside)
at_other (y ∷ b) zero [] p beside = refl
at_other (y ∷ b) zero (z ∷ x) zero beside = absurd (⊎_elim (λ lt. omega (arith, lt)) (λ le. omega (arith, le)) beside)
at_other (y ∷ b) zero (z ∷ x) (suc p) beside = at_other b zero x p (⊎_elim (λ lt. absurd (omega (arith, lt))) (λ le. inr (omega (arith, le))) beside)

-- the position of one byte that is written
pub at_one : (b : List ℕ) (at y : ℕ) → at < length b → slice_get (over b at (y ∷ [])) at ≡ Some y
at_one [] at y lt = absurd (omega arith)
at_one (a ∷ b) (suc at) y lt = at_one b at y (omega arith)
at_one (a ∷ []) zero y lt = refl
at_one (a ∷ c ∷ b) zero y lt = refl

over_whole : (q x : List ℕ) → length q ≡ length x → over q 0 x ≡ x
over_whole [] [] same = refl
over_whole [] (z ∷ x) same = absurd (omega arith)
over_whole (y ∷ q) [] same = absurd (omega arith)
over_whole (y ∷ q) (z ∷ x) same = ap (λ (l : List ℕ). z ∷ l) (over_whole q x (omega arith))

-- the part that is written
pub part_written : (b : List ℕ) (at : ℕ) (x : List ℕ) → at + length x ≤ length b → part (over b at x) at (length x) ≡ x
part_written b at x fits =
    part_over b at (length x) 0 at x (omega arith) (omega arith)
    ∙ over_whole (part b at (length x)) x (length-take-le (length x) (drop at b) (omega (arith, fits, length-drop at b)))

-- Words that are two, or two and others.
use Rattle.std.proofs.Common.{◌≡◌, ◌∙◌, ◌≤◌, ◌<◌, List, [], ◌∷◌, ◌-◌, length, take, drop, get_or, arith, ap, sym}
use Rattle.std.proofs.Math.Seq.{take-length}

pub two_of : {S : Type 0} (ws : List S) (a b : S) → 2 ≤ length ws → length ws < 3 → a ≡ get_or ws 0 a → b ≡ get_or ws 1 b → ws ≡ a ∷ b ∷ []
two_of [] a b least below first second = absurd (omega (arith, least))
two_of (x ∷ []) a b least below first second = absurd (omega (arith, least))
two_of (x ∷ y ∷ []) a b least below first second = λ i. sym first i ∷ sym second i ∷ []
two_of (x ∷ y ∷ z ∷ rest) a b least below first second = absurd (omega (arith, below))

-- All words, by the second one and those behind it.
pub with_rest : {S : Type 0} (ws : List S) (b : S) → 2 ≤ length ws → b ≡ get_or ws 1 b → (a : S) × (ws ≡ a ∷ b ∷ take (length ws - 2) (drop 2 ws))
with_rest [] b least second = absurd (omega (arith, least))
with_rest (x ∷ []) b least second = absurd (omega (arith, least))
with_rest (x ∷ y ∷ rest) b least second =
    let same : length (x ∷ y ∷ rest) - 2 ≡ length rest = omega arith in
    (x, λ i. x ∷ sym second i ∷ (sym (take-length rest) ∙ ap (λ n. take n rest) (sym same)) i)

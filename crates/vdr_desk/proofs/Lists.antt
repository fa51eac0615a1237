-- Elements by their place.
use Rattle.std.proofs.Common.{◌≡◌, ◌<◌, ℕ, zero, suc, List, [], ◌∷◌, Some, length, get_or, set, ⊎_elim, sym, subst, arith, refl}
use Rattle.std.proofs.lemmas.List.{get_or-set_same, get_or-set_other}
use Rattle.std.proofs.lemmas.Bool.{cases_eq}

pub no_default : {X : Type 0} (xs : List X) (i : ℕ) (d e : X) → i < length xs → get_or xs i d ≡ get_or xs i e
no_default [] i d e small = absurd (omega (arith, small))
no_default (x ∷ xs) zero d e small = refl
no_default (x ∷ xs) (suc i) d e small = no_default xs i d e (omega (arith, small))

-- a fact of each element, where one was set
pub at_each : {X : Type 0} (xs : List X) (n : ℕ) (new : X) → n < length xs → (P : ℕ → X → Type 0) (d : X) → P n new → (k : ℕ) → ((k ≡ n → ⊥) → P k (get_or xs k d)) → P k (get_or (set xs n new) k d)
at_each {X} xs n new small P d here k there = ⊎_elim
    (λ (e : k ≡ n). subst (λ (m : ℕ). P m (get_or (set xs n new) m d)) (sym e) (subst (P n) (sym (get_or-set_same xs n new d small)) here))
    (λ (ne : k ≡ n → ⊥). subst (P k) (sym (get_or-set_other xs n k new d ne)) (there ne))
    (cases_eq k n)

pub same_some : {X : Type 0} (a b : X) → Some a ≡ Some b → a ≡ b
same_some a b e = cc

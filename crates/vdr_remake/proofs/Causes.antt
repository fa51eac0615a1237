-- Causes of a fault over calls on two media.
use Rattle.std.proofs.Common.{ℕ, zero, suc, List, [], ◌∷◌, get_or, refl, sym, subst, arith}
use Rattle.std.specs.Prelude.{Any}
use Rattle.vdr_outside.specs.Causes.{NoneFalls, Rose}
use Rattle.vdr_outside.proofs.Counts.{none_falls_join}
use Rattle.vdr_media.proofs.Causes.{rose_among}
use Rattle.vdr_remake.specs.Causes.{RoseAmong}

module _ (a b : List ℕ) (later : NoneFalls a b) (P : Type 0) where
  pub rose_one : (m : ℕ) → (P → Rose (get_or a m 0) (get_or b m 0)) → RoseAmong (m ∷ []) a b P
  rose_one m rose = record { later = later; rose = λ is. (0, m, omega arith, refl, rose is) }

  pub rose_first : (m n : ℕ) → (P → Rose (get_or a m 0) (get_or b m 0)) → RoseAmong (m ∷ n ∷ []) a b P
  rose_first m n rose = record { later = later; rose = λ is. (0, m, omega arith, refl, rose is) }

  pub rose_second : (m n : ℕ) → (P → Rose (get_or a n 0) (get_or b n 0)) → RoseAmong (m ∷ n ∷ []) a b P
  rose_second m n rose = record { later = later; rose = λ is. (1, n, omega arith, refl, rose is) }

  pub rose_never : (members : List ℕ) → (P → ⊥) → RoseAmong members a b P
  rose_never members none = record { later = later; rose = λ is. absurd (none is) }

-- after calls that did not fail
pub rose_later : (members a b c : List ℕ) (P : Type 0) → NoneFalls a b → RoseAmong members b c P → RoseAmong members a c P
rose_later members a b c P earlier h = record {
  later = none_falls_join a b c earlier h.later;
  rose = λ is. rose_among members a b c earlier (h.rose is);
}

-- one of one medium is one of that medium and another
pub rose_wider : (m n : ℕ) (a b : List ℕ) (P Q : Type 0) → (Q → P) → RoseAmong (m ∷ []) a b P → RoseAmong (m ∷ n ∷ []) a b Q
rose_wider m n a b P Q back h = rose_first a b h.later Q m n (λ is. go (h.rose (back is)))
  where
    go : Any (λ k. Rose (get_or a k 0) (get_or b k 0)) (m ∷ []) → Rose (get_or a m 0) (get_or b m 0)
    go (zero, d, lt, same, rose) = subst (λ (k : ℕ). Rose (get_or a k 0) (get_or b k 0)) (sym same) rose
    go (suc i, d, lt, same, rose) = absurd (omega (arith, lt))

pub rose_passed : (members a b : List ℕ) (P Q : Type 0) → (Q → P) → RoseAmong members a b P → RoseAmong members a b Q
rose_passed members a b P Q back h = record { later = h.later; rose = λ is. h.rose (back is) }

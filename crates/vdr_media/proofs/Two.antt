-- The two media that are formatted, in their order.
use Rattle.std.proofs.Common.{◌≢◌, ◌<◌, ℕ, zero, suc, [], ◌∷◌, refl, arith}
use Rattle.std.specs.Prelude.{All, Any}

pub all_two : (P : ℕ → Type 0) → P 0 → P 1 → All P (0 ∷ 1 ∷ [])
all_two P p q zero d lt = p
all_two P p q (suc zero) d lt = q
all_two P p q (suc (suc k)) d lt = absurd (omega (arith, lt))

pub first_of : (P : ℕ → Type 0) → P 0 → Any P (0 ∷ 1 ∷ [])
first_of P p = (0, 0, omega arith, refl, p)

pub second_of : (P : ℕ → Type 0) → P 1 → Any P (0 ∷ 1 ∷ [])
second_of P p = (1, 1, omega arith, refl, p)

pub not_first : (k : ℕ) → All (λ m. k ≢ m) (0 ∷ 1 ∷ []) → k ≢ 0
not_first k others = others 0 0 (omega arith)

-- What holds of all media holds of each.
pub of_each : (P : ℕ → Type 0) → All P (0 ∷ 1 ∷ []) → (k : ℕ) → k < 2 → P k
of_each P all zero lt = all 0 0 (omega arith)
of_each P all (suc zero) lt = all 1 1 (omega arith)
of_each P all (suc (suc k)) lt = absurd (omega (arith, lt))

-- And what holds of each holds of all.
pub of_all : (P : ℕ → Type 0) → ((k : ℕ) → k < 2 → P k) → All P (0 ∷ 1 ∷ [])
of_all P each zero d lt = each 0 (omega arith)
of_all P each (suc zero) d lt = each 1 (omega arith)
of_all P each (suc (suc k)) d lt = absurd (omega (arith, lt))

pub any_at : (P : ℕ → Type 0) (m : ℕ) → m < 2 → P m → Any P (0 ∷ 1 ∷ [])
any_at P zero lt here = first_of P here
any_at P (suc zero) lt here = second_of P here
any_at P (suc (suc m)) lt here = absurd (omega (arith, lt))

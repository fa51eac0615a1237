-- Powers of ten, in order.
use Rattle.std.proofs.Common.{◌≡◌, ◌≤◌, ◌<◌, ◌+◌, ◌-◌, ◌*◌, ◌^◌, ℕ, zero, suc, arith, sym, subst}
use Rattle.std.proofs.Math.Nat.{pow-suc}

mono : (a d : ℕ) → 10 ^ a ≤ 10 ^ (a + d)
mono a zero = let e : a + 0 ≡ a = omega arith in subst (λ (n : ℕ). 10 ^ a ≤ 10 ^ n) (sym e) (omega arith)
mono a (suc d) =
    let h : 10 ^ a ≤ 10 ^ (a + d) = mono a d in
    let p : 10 ^ suc (a + d) ≡ 10 ^ (a + d) * 10 = pow-suc 10 (a + d) in
    let e : a + suc d ≡ suc (a + d) = omega arith in
    subst (λ (n : ℕ). 10 ^ a ≤ 10 ^ n) (sym e) (omega (arith, p, h))

pub pow_le : (a b : ℕ) → a ≤ b → 10 ^ a ≤ 10 ^ b
pow_le a b h = let e : a + (b - a) ≡ b = omega (arith, h) in subst (λ (n : ℕ). 10 ^ a ≤ 10 ^ n) e (mono a (b - a))

-- the first power is one
pub pow_positive : (b : ℕ) → 0 < 10 ^ b
pow_positive b = let h : 10 ^ 0 ≤ 10 ^ b = pow_le 0 b (omega arith) in omega (arith, h)

-- The first bytes of a list, read as the list.
use Rattle.std.proofs.Common.{◌≡◌, ◌≤◌, ◌<◌, ◌+◌, ◌-◌, ◌*◌, ℕ, Bool, true, false, cond, List, length, take, drop, refl, ap, ◌∙◌, sym, nat_lt, arith}
use Rattle.std.specs.Prelude.{slice_index}
use Rattle.std.proofs.lemmas.Bool.{cond-true, lt-ltb, ltb-true, ltb-false}
use Rattle.std.proofs.lemmas.Bool.Decides.{nat_tests}
use Rattle.std.proofs.lemmas.List.{length-take, get_or-take, drop-take, take-take, drop_all}
use Rattle.vdr_frame.specs.Numbers.{u16_at}

-- whether they are too few
pub shorter : (n k : ℕ) (bytes : List ℕ) → k ≤ n → nat_lt (length (take n bytes)) k ≡ nat_lt (length bytes) k
shorter n k bytes held = grind (arith, nat_tests, length-take n bytes)

pub byte_at : (n k : ℕ) (bytes : List ℕ) → k < n → slice_index (take n bytes) k ≡ slice_index bytes k
byte_at n k bytes held = get_or-take n bytes k 0 held

pub number_at : (n k : ℕ) (bytes : List ℕ) → k + 1 < n → u16_at (take n bytes) k ≡ u16_at bytes k
number_at n k bytes held = λ i. 256 * byte_at n k bytes (omega arith) i + byte_at n (k + 1) bytes held i

-- the same of a list that has that many
pub fewer : (n k : ℕ) (bytes : List ℕ) → k ≤ length bytes → nat_lt (length (take n bytes)) k ≡ nat_lt n k
fewer n k bytes held = grind (arith, nat_tests, length-take n bytes)

-- behind some of them
pub behind : (n k : ℕ) (bytes : List ℕ) → k ≤ n → drop k (take n bytes) ≡ take (n - k) (drop k bytes)
behind n k bytes held =
    let whole : n ≡ k + (n - k) = omega arith in
    ap (λ (m : ℕ). drop k (take m bytes)) whole ∙ drop-take k (n - k) bytes

pub part : (n k c : ℕ) (bytes : List ℕ) → k + c ≤ n → take c (drop k (take n bytes)) ≡ take c (drop k bytes)
part n k c bytes held = ap (λ (xs : List ℕ). take c xs) (behind n k bytes (omega arith)) ∙ take-take c (n - k) (drop k bytes) (omega arith)

-- the same behind more than there are
pub behind_any : (n k : ℕ) (bytes : List ℕ) → drop k (take n bytes) ≡ take (n - k) (drop k bytes)
behind_any n k bytes =
    let go : (v : Bool) → nat_lt n k ≡ v → drop k (take n bytes) ≡ take (n - k) (drop k bytes) =
    λ v. elim v as (λ v'. nat_lt n k ≡ v' → drop k (take n bytes) ≡ take (n - k) (drop k bytes)) [
      | true ↦ λ e. none (ltb-true n k e)
      | false ↦ λ e. behind n k bytes (ltb-false n k e)
    ] in
    go (nat_lt n k) refl
  where
    none : n < k → drop k (take n bytes) ≡ take (n - k) (drop k bytes)
    none few =
        let nothing : n - k ≡ 0 = omega arith in
        drop_all k (take n bytes) (omega (arith, length-take n bytes)) ∙ ap (λ (m : ℕ). take m (drop k bytes)) (sym nothing)

-- ---- tests of how much was captured

pub cond_else : {A : Type 0} (b : Bool) (x y z : A) → (b ≡ false → y ≡ z) → cond b x y ≡ cond b x z
cond_else true x y z h = refl
cond_else false x y z h = h refl

-- a test that another one follows, which says the same where both fail
pub absorb : {A : Type 0} (m a b : ℕ) (x y z : A) → a ≤ b → (a ≤ m → y ≡ cond (nat_lt m b) x z) → cond (nat_lt m a) x y ≡ cond (nat_lt m b) x z
absorb {A} m a b x y z less h =
    let go : (v : Bool) → nat_lt m a ≡ v → cond v x y ≡ cond (nat_lt m b) x z =
    λ v. elim v as (λ v'. nat_lt m a ≡ v' → cond v' x y ≡ cond (nat_lt m b) x z) [
      | true ↦ λ e. sym (cond-true (nat_lt m b) x z (lt-ltb m b (below m a b (ltb-true m a e) less)))
      | false ↦ λ e. h (ltb-false m a e)
    ] in
    go (nat_lt m a) refl
  where
    below : (m a b : ℕ) → m < a → a ≤ b → m < b
    below m a b p q = omega arith

-- the same test behind so many bytes
pub moved_test : (m h k : ℕ) → 0 < k → nat_lt (m - h) k ≡ nat_lt m (h + k)
moved_test m h k some = grind (arith, nat_tests)

-- The sum of the counts of faults.
use Rattle.std.proofs.Common.{refl, ◌≡◌, ℕ, zero, suc, ◌+◌, ◌-◌, ◌^◌, ◌<◌, ◌≤◌, min, List, [], ◌∷◌, length, get_or, ◌∙◌, arith}
use Rattle.std.proofs.lemmas.List.Sums.{sum_by-cons}
use Rattle.std.specs.Prelude.{sum, Result, Ok, Err, OnErr}
use Rattle.vdr_outside.specs.Causes.{Rose, NoneFalls}

pub sum_not_less : (before now : List ℕ) → length now ≡ length before → ((k : ℕ) → get_or before k 0 ≤ get_or now k 0) → sum before ≤ sum now
sum_not_less [] [] same le = omega arith
sum_not_less [] (y ∷ now) same le = absurd (omega arith)
sum_not_less (x ∷ before) [] same le = absurd (omega arith)
sum_not_less (x ∷ before) (y ∷ now) same le =
    let first : x ≤ y = le zero in
    let a : sum (x ∷ before) ≡ x + sum before = sum_by-cons (λ n. n) x before in
    let b : sum (y ∷ now) ≡ y + sum now = sum_by-cons (λ n. n) y now in
    let rest : sum before ≤ sum now = sum_not_less before now (omega arith) (λ k. le (suc k)) in
    omega arith

-- where one count rose and none fell, the sum rose
pub sum_rose : (before now : List ℕ) (m : ℕ) → length now ≡ length before → ((k : ℕ) → get_or before k 0 ≤ get_or now k 0) → Rose (get_or before m 0) (get_or now m 0) → Rose (sum before) (sum now)
sum_rose [] [] m same le rose = absurd (omega (arith, rose))
sum_rose [] (y ∷ now) m same le rose = absurd (omega arith)
sum_rose (x ∷ before) [] m same le rose = absurd (omega arith)
sum_rose (x ∷ before) (y ∷ now) zero same le rose =
    let a : sum (x ∷ before) ≡ x + sum before = sum_by-cons (λ n. n) x before in
    let b : sum (y ∷ now) ≡ y + sum now = sum_by-cons (λ n. n) y now in
    let first : min (x + 1) (2 ^ 64 - 1) ≤ y = rose in
    let rest : sum before ≤ sum now = sum_not_less before now (omega arith) (λ k. le (suc k)) in
    omega arith
sum_rose (x ∷ before) (y ∷ now) (suc m) same le rose =
    let first : x ≤ y = le zero in
    let a : sum (x ∷ before) ≡ x + sum before = sum_by-cons (λ n. n) x before in
    let b : sum (y ∷ now) ≡ y + sum now = sum_by-cons (λ n. n) y now in
    let rest : min (sum before + 1) (2 ^ 64 - 1) ≤ sum now = sum_rose before now m (omega arith) (λ k. le (suc k)) rose in
    omega arith

-- counts that did not fall before they rose
pub rose_after : (a b c : ℕ) → a ≤ b → Rose b c → Rose a c
rose_after a b c le rose = omega (arith, rose)

-- what holds anyway holds after an Err
pub on_err : {T E P : Type 0} (r : Result T E) → P → OnErr r P
on_err (Ok x) p = tt
on_err (Err e) p = p

pub none_fell : (counts : List ℕ) → NoneFalls counts counts
none_fell counts = record { same_media = refl; none_falls = λ k. omega arith }

pub none_falls_join : (a b c : List ℕ) → NoneFalls a b → NoneFalls b c → NoneFalls a c
none_falls_join a b c first second = record {
  same_media = second.same_media ∙ first.same_media;
  none_falls = λ k. omega (arith, first.none_falls k, second.none_falls k);
}

-- The media of a recording, by number: what holds of all of them holds of each number below their count, and the other way.
use Rattle.std.proofs.Common.{◌≡◌, ◌<◌, ◌≤◌, ◌+◌, ℕ, zero, suc, List, ◌∷◌, length, get_or, take, drop, refl, sym, ap, ◌∙◌, subst, arith}
use Rattle.std.specs.Prelude.{All, Any}
use Rattle.std.proofs.lemmas.List.{get_or-drop, get_or-take, length-drop, length-take-le}
use Rattle.std.proofs.lemmas.List.FromFn.{get_or-range_with_len, length-range_with_len}
use Rattle.std.proofs.Math.Seq.{drop-cons}
use Rattle.vdr_media.specs.Formatted.{members_with}

-- These are the numbers below a count, in their order.
pub record AreNumbers (ms : List ℕ) (count : ℕ) : Type 0 where
  pub size : length ms ≡ count
  pub at : (k d : ℕ) → k < count → get_or ms k d ≡ k

module _ {ms : List ℕ} {count : ℕ} (are : AreNumbers ms count) where
  -- From one of them on, and up to one.
  pub rest_at : (k : ℕ) → k < count → drop k ms ≡ k ∷ drop (k + 1) ms
  rest_at k lt =
      let size = are.size in
      let on : suc k ≡ k + 1 = omega arith in
      drop-cons ms k 0 (omega (arith, lt, size)) ∙ ap (λ (m : ℕ). m ∷ drop (suc k) ms) (are.at k 0 lt) ∙ ap (λ (j : ℕ). k ∷ drop j ms) on

  pub front_numbers : (m : ℕ) → m ≤ count → AreNumbers (take m ms) m
  front_numbers m within = record {
    size = let size = are.size in length-take-le m ms (omega (arith, within, size));
    at = λ k d lt. get_or-take m ms k d lt ∙ are.at k d (omega (arith, lt, within));
  }

  module _ (P : ℕ → Type 0) where
    pub each_of : All P ms → (k : ℕ) → k < count → P k
    each_of all k lt = let size = are.size in subst P (are.at k 0 lt) (all k 0 (omega (arith, lt, size)))

    pub all_of : ((k : ℕ) → k < count → P k) → All P ms
    all_of each k d lt = let size = are.size in let below : k < count = omega (arith, lt, size) in subst P (sym (are.at k d below)) (each k below)

    pub any_of : (m : ℕ) → m < count → P m → Any P ms
    any_of m lt here = let size = are.size in (m, m, omega (arith, lt, size), are.at m m lt, here)

    pub rest_of : (k : ℕ) → ((j : ℕ) → k ≤ j → j < count → P j) → All P (drop k ms)
    rest_of k each j d lt =
        let size = are.size in
        let left = length-drop k ms in
        let below : k + j < count = omega (arith, lt, left, size) in
        subst P (sym (get_or-drop k ms j d ∙ are.at (k + j) d below)) (each (k + j) (omega arith) below)

pub front_of : {ms : List ℕ} {count : ℕ} → AreNumbers ms count → (P : ℕ → Type 0) (m : ℕ) → m ≤ count → ((k : ℕ) → k < m → P k) → All P (take m ms)
front_of are P m within each = all_of (front_numbers are m within) P each

-- The media with so many further ones.
pub numbers : (n : ℕ) → AreNumbers (members_with n) (2 + n)
numbers n = record { size = let further = length-range_with_len 2 n in omega (arith, further); at = at }
  where
    at : (k d : ℕ) → k < 2 + n → get_or (members_with n) k d ≡ k
    at zero d lt = refl
    at (suc zero) d lt = refl
    at (suc (suc k)) d lt = let here = get_or-range_with_len 2 n k d (omega (arith, lt)) in omega (arith, here)

module _ (P : ℕ → Type 0) (n : ℕ) where
  pub of_each : All P (members_with n) → (k : ℕ) → k < 2 + n → P k
  of_each = each_of (numbers n) P

  pub of_all : ((k : ℕ) → k < 2 + n → P k) → All P (members_with n)
  of_all = all_of (numbers n) P

  pub any_at : (m : ℕ) → m < 2 + n → P m → Any P (members_with n)
  any_at = any_of (numbers n) P

  -- The first two, and the further ones.
  pub all_with : P 0 → P 1 → ((k : ℕ) → 2 ≤ k → k < 2 + n → P k) → All P (members_with n)
  all_with first second further = of_all each
    where
      each : (k : ℕ) → k < 2 + n → P k
      each zero lt = first
      each (suc zero) lt = second
      each (suc (suc k)) lt = further (suc (suc k)) (omega arith) lt

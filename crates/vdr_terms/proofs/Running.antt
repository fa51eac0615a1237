-- Records whose places run on, and whose ticks never fall.
use Rattle.std.proofs.Common.{ℕ, suc, ◌≡◌, ◌+◌, ◌++◌, List, [], ◌∷◌, length, add-zero, subst, refl, arith}
use Rattle.vdr_terms.specs.Records.{Record, last_after}
use Rattle.vdr_terms.specs.Order.{NeverFalls, RunOn}

-- Two runs joined, where the second goes on from the first.
pub run_on_join : (place : ℕ) (xs ys : List Record) → RunOn place xs → RunOn (place + length xs) ys → RunOn place (xs ++ ys)
run_on_join place [] ys h k = subst (λ (n : ℕ). RunOn n ys) (add-zero place) k
run_on_join place (x ∷ xs) ys h k = (h.0, run_on_join (suc place) xs ys h.1 (subst (λ (n : ℕ). RunOn n ys) (omega arith) k))

-- The place of the last of a run.
pub last_of_run : (place : ℕ) (r : Record) (rs : List Record) → RunOn place (r ∷ rs) → suc (last_after r rs).place ≡ place + length (r ∷ rs)
last_of_run place r [] h = let a = h.0 in omega (arith, a)
last_of_run place r (s ∷ rs) h = let a = last_of_run (suc place) s rs h.1 in omega (arith, a)

-- The last of two lists is the last of the second.
pub last_join : (x : Record) (xs : List Record) (y : Record) (ys : List Record) → last_after x (xs ++ y ∷ ys) ≡ last_after y ys
last_join x [] y ys = refl
last_join x (z ∷ xs) y ys = last_join z xs y ys

-- Ticks that rise on behind the last, and along a front.
pub never_falls_behind : (x : Record) (xs ys : List Record) → NeverFalls x.tick xs → NeverFalls (last_after x xs).tick ys → NeverFalls x.tick (xs ++ ys)
never_falls_behind x [] ys h k = k
never_falls_behind x (z ∷ xs) ys h k = (h.0, never_falls_behind z xs ys h.1 k)

pub never_falls_front : (from : ℕ) (xs ys : List Record) → NeverFalls from (xs ++ ys) → NeverFalls from xs
never_falls_front from [] ys h = tt
never_falls_front from (x ∷ xs) ys h = (h.0, never_falls_front x.tick xs ys h.1)

-- Records in order, one run of them behind another.
use Rattle.std.proofs.Common.{◌≡◌, ◌≤◌, ℕ, suc, List, [], ◌∷◌, ◌++◌, refl, ap, ◌∙◌, sym, subst, arith}
use Rattle.vdr_terms.specs.Records.{Record, last_after}
use Rattle.vdr_terms.specs.Order.{RunOn, NeverFalls}
use Rattle.vdr_index.specs.Stretches.{mark_of, Follows, AreInOrderFrom}

run_join : (p : ℕ) (x : Record) (xs : List Record) (y : Record) (ys : List Record) → RunOn p (x ∷ xs) → y.place ≡ suc (last_after x xs).place → RunOn y.place (y ∷ ys) → RunOn p ((x ∷ xs) ++ y ∷ ys)
run_join p x [] y ys a e b = (a.0, (e ∙ ap suc a.0, subst (λ (n : ℕ). RunOn (suc n) ys) (e ∙ ap suc a.0) b.1))
run_join p x (z ∷ xs) y ys a e b = (a.0, run_join (suc p) z xs y ys a.1 e b)

run_split : (p : ℕ) (x : Record) (xs : List Record) (y : Record) (ys : List Record) → RunOn p ((x ∷ xs) ++ y ∷ ys)
    → RunOn p (x ∷ xs) × (y.place ≡ suc (last_after x xs).place) × RunOn y.place (y ∷ ys)
run_split p x [] y ys a = ((a.0, tt), a.1.0 ∙ ap suc (sym a.0), (refl, subst (λ (n : ℕ). RunOn (suc n) ys) (sym a.1.0) a.1.1))
run_split p x (z ∷ xs) y ys a = let r = run_split (suc p) z xs y ys a.1 in ((a.0, r.0), r.1, r.2)

falls_join : (t : ℕ) (x : Record) (xs : List Record) (y : Record) (ys : List Record) → NeverFalls t (x ∷ xs) → (last_after x xs).tick ≤ y.tick → NeverFalls y.tick (y ∷ ys) → NeverFalls t ((x ∷ xs) ++ y ∷ ys)
falls_join t x [] y ys a e b = (a.0, (e, b.1))
falls_join t x (z ∷ xs) y ys a e b = (a.0, falls_join x.tick z xs y ys a.1 e b)

falls_split : (t : ℕ) (x : Record) (xs : List Record) (y : Record) (ys : List Record) → NeverFalls t ((x ∷ xs) ++ y ∷ ys)
    → NeverFalls t (x ∷ xs) × ((last_after x xs).tick ≤ y.tick) × NeverFalls y.tick (y ∷ ys)
falls_split t x [] y ys a = ((a.0, tt), a.1.0, (omega arith, a.1.1))
falls_split t x (z ∷ xs) y ys a = let r = falls_split x.tick z xs y ys a.1 in ((a.0, r.0), r.1, r.2)

-- two runs are in order exactly where each is and the second follows the last of the first
pub order_join : (p t : ℕ) (x : Record) (xs : List Record) (y : Record) (ys : List Record) → AreInOrderFrom p t (x ∷ xs) → Follows (mark_of (last_after x xs)) (mark_of y) → AreInOrderFrom y.place y.tick (y ∷ ys)
    → AreInOrderFrom p t ((x ∷ xs) ++ y ∷ ys)
order_join p t x xs y ys a f b = (run_join p x xs y ys a.0 f.0 b.0, falls_join t x xs y ys a.1 f.1 b.1)

pub order_split : (p t : ℕ) (x : Record) (xs : List Record) (y : Record) (ys : List Record) → AreInOrderFrom p t ((x ∷ xs) ++ y ∷ ys)
    → AreInOrderFrom p t (x ∷ xs) × Follows (mark_of (last_after x xs)) (mark_of y) × AreInOrderFrom y.place y.tick (y ∷ ys)
order_split p t x xs y ys a =
    let r = run_split p x xs y ys a.0 in
    let f = falls_split t x xs y ys a.1 in
    ((r.0, f.0), (r.1, f.1), (r.2, f.2))

-- records in order from their own first place and tick on
pub order_alone : (y : Record) → AreInOrderFrom y.place y.tick (y ∷ [])
order_alone y = ((refl, tt), (omega arith, tt))

pub order_from : (p : ℕ) (y : Record) (ys : List Record) → y.place ≡ p → AreInOrderFrom y.place y.tick (y ∷ ys) → AreInOrderFrom p 0 (y ∷ ys)
order_from p y ys e a = ((e, subst (λ (n : ℕ). RunOn (suc n) ys) e a.0.1), (omega arith, a.1.1))

pub order_own : (p : ℕ) (y : Record) (ys : List Record) → AreInOrderFrom p 0 (y ∷ ys) → (y.place ≡ p) × AreInOrderFrom y.place y.tick (y ∷ ys)
order_own p y ys a = (a.0.0, ((refl, subst (λ (n : ℕ). RunOn (suc n) ys) (sym a.0.0) a.0.1), (omega arith, a.1.1)))

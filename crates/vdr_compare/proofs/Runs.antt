-- Runs of places, and the places of which they were joined.
use Rattle.std.proofs.Common.{◌≡◌, ◌⊎◌, ◌+◌, ◌≤◌, ◌<◌, inl, inr, ⊎_elim, ℕ, Bool, true, false, eqb, List, [], ◌∷◌, All, Contains, refl, sym, ◌∙◌, subst, arith}
use Rattle.std.specs.Prelude.{◌↔◌, ⊤}
use Rattle.std.proofs.lemmas.Bool.{and_parts, cases_lt, eqb-true}
use Rattle.std.proofs.lemmas.List.Elements.{All-cons, All-head, All-tail}
use Rattle.vdr_durability.proofs.Lists.{contains_cases, contains_here, contains_there, none_contained}
use Rattle.vdr_compare.specs.declared.difference.Difference.{Difference}
use Rattle.vdr_compare.specs.declared.difference.Difference.TheVariants.{Differs, Lacks}
use Rattle.vdr_compare.specs.Differences.{goes_on, joined, joined_before, with_next}
use Rattle.vdr_compare.specs.Laws.{AreLacking, Covers}
use Rattle.vdr_compare.proofs.Joining.{false_true, joins, stays}

-- The first place of a run is not behind the last one.
abbrev pub IsRun : Difference → Type 0
IsRun (Differs place) = ⊤
IsRun (Lacks m a b) = a ≤ b

grown_run : (x y : Difference) → goes_on x y ≡ true → IsRun x → IsRun y → IsRun (with_next x y)
grown_run (Differs p) y e r s = false_true e
grown_run (Lacks m a b) (Differs p) e r s = false_true e
grown_run (Lacks m a b) (Lacks n c d) e r s =
    let next : c ≡ b + 1 = eqb-true c (b + 1) (and_parts (eqb m n) (eqb c (b + 1)) e).1 in omega (arith, r, s, next)

before_runs : (x : Difference) (ys : List Difference) → IsRun x → All IsRun ys → All IsRun (joined_before x ys)
before_runs x [] r rs = All-cons IsRun x [] r rs
before_runs x (y ∷ ys) r rs = by (goes_on x y) refl
  where
    by : (b : Bool) → goes_on x y ≡ b → All IsRun (joined_before x (y ∷ ys))
    by true e = subst (All IsRun) (sym (joins x y ys e)) (All-cons IsRun (with_next x y) ys (grown_run x y e r (All-head IsRun y ys rs)) (All-tail IsRun y ys rs))
    by false e = subst (All IsRun) (sym (stays x y ys e)) (All-cons IsRun x (y ∷ ys) r rs)

joined_runs : (xs : List Difference) → All IsRun xs → All IsRun (joined xs)
joined_runs [] rs = rs
joined_runs (x ∷ xs) rs = before_runs x (joined xs) (All-head IsRun x xs rs) (joined_runs xs (All-tail IsRun x xs rs))

-- One of these is so.
abbrev pub Has : (Difference → Type 0) → List Difference → Type 0
Has P told = (x : Difference) × Contains told x × P x

module _ (P : Difference → Type 0) where
  has_none : Has P [] → ⊥
  has_none h = none_contained h.0 h.1

  has_here : (x : Difference) (xs : List Difference) → P x → Has P (x ∷ xs)
  has_here x xs p = (x, contains_here x xs, p)

  has_there : (x : Difference) (xs : List Difference) → Has P xs → Has P (x ∷ xs)
  has_there x xs h = (h.0, contains_there x xs h.0 h.1, h.2)

  has_cases : (x : Difference) (xs : List Difference) → Has P (x ∷ xs) → P x ⊎ Has P xs
  has_cases x xs h = ⊎_elim
      (λ (e : x ≡ h.0). inl (subst P (sym e) h.2))
      (λ (m : Contains xs h.0). inr (h.0, m, h.2))
      (contains_cases x xs h.0 h.1)

  -- What is so of a grown run is so of a part of it, and the other way.
  module _ (apart : (x y : Difference) → goes_on x y ≡ true → IsRun x → IsRun y → P (with_next x y) → P x ⊎ P y)
      (together : (x y : Difference) → goes_on x y ≡ true → IsRun x → IsRun y → P x ⊎ P y → P (with_next x y)) where
    before_apart : (x : Difference) (ys : List Difference) → IsRun x → All IsRun ys → Has P (joined_before x ys) → Has P (x ∷ ys)
    before_apart x [] r rs h = h
    before_apart x (y ∷ ys) r rs h = by (goes_on x y) refl
      where
        by : (b : Bool) → goes_on x y ≡ b → Has P (x ∷ y ∷ ys)
        by true e = ⊎_elim
            (λ (p : P (with_next x y)). ⊎_elim
            (λ (q : P x). has_here x (y ∷ ys) q)
            (λ (q : P y). has_there x (y ∷ ys) (has_here y ys q))
            (apart x y e r (All-head IsRun y ys rs) p))
            (λ (k : Has P ys). has_there x (y ∷ ys) (has_there y ys k))
            (has_cases (with_next x y) ys (subst (Has P) (joins x y ys e) h))
        by false e = subst (Has P) (stays x y ys e) h

    before_together : (x : Difference) (ys : List Difference) → IsRun x → All IsRun ys → Has P (x ∷ ys) → Has P (joined_before x ys)
    before_together x [] r rs h = h
    before_together x (y ∷ ys) r rs h = by (goes_on x y) refl
      where
        run : IsRun y
        run = All-head IsRun y ys rs

        by : (b : Bool) → goes_on x y ≡ b → Has P (joined_before x (y ∷ ys))
        by true e = subst (Has P) (sym (joins x y ys e)) (⊎_elim
            (λ (p : P x). has_here (with_next x y) ys (together x y e r run (inl p)))
            (λ (k : Has P (y ∷ ys)). ⊎_elim
            (λ (q : P y). has_here (with_next x y) ys (together x y e r run (inr q)))
            (λ (l : Has P ys). has_there (with_next x y) ys l)
            (has_cases y ys k))
            (has_cases x (y ∷ ys) h))
        by false e = subst (Has P) (sym (stays x y ys e)) h

    pub joined_apart : (xs : List Difference) → All IsRun xs → Has P (joined xs) → Has P xs
    joined_apart [] rs h = h
    joined_apart (x ∷ xs) rs h = ⊎_elim
        (λ (p : P x). has_here x xs p)
        (λ (k : Has P (joined xs)). has_there x xs (joined_apart xs (All-tail IsRun x xs rs) k))
        (has_cases x (joined xs) (before_apart x (joined xs) (All-head IsRun x xs rs) (joined_runs xs (All-tail IsRun x xs rs)) h))

    pub joined_together : (xs : List Difference) → All IsRun xs → Has P xs → Has P (joined xs)
    joined_together [] rs h = h
    joined_together (x ∷ xs) rs h = before_together x (joined xs) (All-head IsRun x xs rs) (joined_runs xs (All-tail IsRun x xs rs)) (⊎_elim
        (λ (p : P x). has_here x (joined xs) p)
        (λ (k : Has P xs). has_there x (joined xs) (joined_together xs (All-tail IsRun x xs rs) k))
        (has_cases x xs h))

-- The places that lack

module _ (m place : ℕ) where
  covers_apart : (x y : Difference) → goes_on x y ≡ true → IsRun x → IsRun y → Covers m place (with_next x y) → Covers m place x ⊎ Covers m place y
  covers_apart (Differs p) y e r s c = false_true e
  covers_apart (Lacks n a b) (Differs p) e r s c = false_true e
  covers_apart (Lacks n a b) (Lacks k f g) e r s c =
      let parts = and_parts (eqb n k) (eqb f (b + 1)) e in
      let same : n ≡ k = eqb-true n k parts.0 in
      let next : f ≡ b + 1 = eqb-true f (b + 1) parts.1 in
      ⊎_elim
      (λ (low : place < f). inl (c.0, c.1, omega (arith, low, next)))
      (λ (high : f ≤ place). inr (sym same ∙ c.0, high, c.2))
      (cases_lt place f)

  covers_together : (x y : Difference) → goes_on x y ≡ true → IsRun x → IsRun y → Covers m place x ⊎ Covers m place y → Covers m place (with_next x y)
  covers_together (Differs p) y e r s c = false_true e
  covers_together (Lacks n a b) (Differs p) e r s c = false_true e
  covers_together (Lacks n a b) (Lacks k f g) e r s c =
      let parts = and_parts (eqb n k) (eqb f (b + 1)) e in
      let same : n ≡ k = eqb-true n k parts.0 in
      let next : f ≡ b + 1 = eqb-true f (b + 1) parts.1 in
      ⊎_elim
      (λ (h : (n ≡ m) × (a ≤ place) × (place ≤ b)). let u = h.2 in (h.0, h.1, omega (arith, u, next, s)))
      (λ (h : (k ≡ m) × (f ≤ place) × (place ≤ g)). let l = h.1 in (same ∙ h.0, omega (arith, l, next, r), h.2))
      c

  pub lacking_joined : (xs : List Difference) → All IsRun xs → AreLacking m (joined xs) place ↔ AreLacking m xs place
  lacking_joined xs rs = (joined_apart (Covers m place) covers_apart covers_together xs rs, joined_together (Covers m place) covers_apart covers_together xs rs)

-- The places that differ

module _ (place : ℕ) where
  abbrev IsThis : Difference → Type 0
  IsThis x = x ≡ Differs place

  no_lack : {Q : Type 0} (m a b : ℕ) → Lacks m a b ≡ Differs place → Q
  no_lack m a b e = let none : ⊥ = cc in absurd none

  this_apart : (x y : Difference) → goes_on x y ≡ true → IsRun x → IsRun y → IsThis (with_next x y) → IsThis x ⊎ IsThis y
  this_apart (Differs p) y e r s c = false_true e
  this_apart (Lacks n a b) (Differs p) e r s c = false_true e
  this_apart (Lacks n a b) (Lacks k f g) e r s c = no_lack n a g c

  this_together : (x y : Difference) → goes_on x y ≡ true → IsRun x → IsRun y → IsThis x ⊎ IsThis y → IsThis (with_next x y)
  this_together (Differs p) y e r s c = false_true e
  this_together (Lacks n a b) (Differs p) e r s c = false_true e
  this_together (Lacks n a b) (Lacks k f g) e r s c = ⊎_elim (λ h. no_lack n a b h) (λ h. no_lack k f g h) c

  pub differs_joined : (xs : List Difference) → All IsRun xs → Contains (joined xs) (Differs place) ↔ Contains xs (Differs place)
  differs_joined xs rs = (
    λ h. let k = joined_apart IsThis this_apart this_together xs rs (Differs place, h, refl) in subst (Contains xs) k.2 k.1,
    λ h. let k = joined_together IsThis this_apart this_together xs rs (Differs place, h, refl) in subst (Contains (joined xs)) k.2 k.1,
  )

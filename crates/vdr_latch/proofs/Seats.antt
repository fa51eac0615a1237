-- The views of all seats, where one of them changes or one is added: sums over them, and what holds of each, of some, and of their tickets.
use Rattle.std.proofs.Common.{◌≡◌, ◌≢◌, ℕ, zero, suc, ◌+◌, ◌≤◌, Bool, true, false, true≢false, cond, List, [], ◌∷◌, ◌++◌, Option, Some, None, set, refl, ap, sym, ◌∙◌, subst, ⊎_elim, arith}
use Rattle.std.specs.List.{sum_by, count_by}
use Rattle.std.proofs.lemmas.List.Sums.{sum_by-cons, sum_by_push}
use mathlib.Core.Logic.{dite}
use mathlib.Core.Option.{some, some-injective, some-ne-none}
use native.Mathlib.Decide.{ℕ_discrete}
use lib.ListN.{get_elem?}
use Rattle.atomic_table.proofs.Lists.{at_set, at_snoc, set_else, at_longer}
use Rattle.vdr_latch.specs.declared.view.View.{View}
use Rattle.vdr_latch.specs.Rule.{Everywhere, Somewhere, TicketsDiffer}

-- what one place adds to a count
abbrev one : Bool → ℕ
one b = cond b 1 0

module _ {A : Type 0} where
  pub set_there : (l : List A) (i : ℕ) (a b : A) → get_elem? l i ≡ some a → get_elem? (set l i b) i ≡ some b
  set_there [] i a b e = absurd (some-ne-none a (sym e))
  set_there (x ∷ xs) zero a b e = refl
  set_there (x ∷ xs) (suc i) a b e = set_there xs i a b e

  pub same_at : (l : List A) (i j : ℕ) (a b : A) → get_elem? l i ≡ some a → get_elem? l j ≡ some b → j ≡ i → b ≡ a
  same_at l i j a b p q e = some-injective b a (sym q ∙ (ap (λ k. get_elem? l k) e ∙ p))

  pub sum_set : (f : A → ℕ) (l : List A) (i : ℕ) (a b : A) → get_elem? l i ≡ some a → sum_by f (set l i b) + f a ≡ sum_by f l + f b
  sum_set f [] i a b e = absurd (some-ne-none a (sym e))
  sum_set f (x ∷ xs) zero a b e = let h : f x ≡ f a = ap f (some-injective x a e) in omega (arith, sum_by-cons f x xs, sum_by-cons f b xs)
  sum_set f (x ∷ xs) (suc i) a b e = let h = sum_set f xs i a b e in omega (arith, sum_by-cons f x xs, sum_by-cons f x (set xs i b))

  pub sum_one : (f : A → ℕ) (l : List A) (i : ℕ) (a : A) → get_elem? l i ≡ some a → f a ≤ sum_by f l
  sum_one f [] i a e = absurd (some-ne-none a (sym e))
  sum_one f (x ∷ xs) zero a e = let h : f x ≡ f a = ap f (some-injective x a e) in omega (arith, sum_by-cons f x xs)
  sum_one f (x ∷ xs) (suc i) a e = let h = sum_one f xs i a e in omega (arith, sum_by-cons f x xs)

  pub sum_two : (f : A → ℕ) (l : List A) (i j : ℕ) (a b : A) → get_elem? l i ≡ some a → get_elem? l j ≡ some b → j ≢ i → f a + f b ≤ sum_by f l
  sum_two f [] i j a b p q n = absurd (some-ne-none a (sym p))
  sum_two f (x ∷ xs) zero zero a b p q n = absurd (n refl)
  sum_two f (x ∷ xs) zero (suc j) a b p q n = let h : f x ≡ f a = ap f (some-injective x a p) in let k = sum_one f xs j b q in omega (arith, sum_by-cons f x xs)
  sum_two f (x ∷ xs) (suc i) zero a b p q n = let h : f x ≡ f b = ap f (some-injective x b q) in let k = sum_one f xs i a p in omega (arith, sum_by-cons f x xs)
  sum_two f (x ∷ xs) (suc i) (suc j) a b p q n = let k = sum_two f xs i j a b p q (λ e. n (ap suc e)) in omega (arith, sum_by-cons f x xs)

  -- where each gives nothing, all give nothing
  pub sum_none : (f : A → ℕ) (l : List A) → ((j : ℕ) (u : A) → get_elem? l j ≡ some u → f u ≡ 0) → sum_by f l ≡ 0
  sum_none f [] h = refl
  sum_none f (x ∷ xs) h = let e = h 0 x refl in let r = sum_none f xs (λ j u at. h (suc j) u at) in omega (arith, sum_by-cons f x xs)

  counted : (p : A → Bool) (l : List A) (i : ℕ) (a b : A) → get_elem? l i ≡ some a → count_by p (set l i b) + one (p a) ≡ count_by p l + one (p b)
  counted p l i a b at = sum_set (λ x. one (p x)) l i a b at

  pub count_same : (p : A → Bool) (l : List A) (i : ℕ) (a b : A) → get_elem? l i ≡ some a → p b ≡ p a → count_by p (set l i b) ≡ count_by p l
  count_same p l i a b at same = let c = counted p l i a b at in let e : one (p b) ≡ one (p a) = ap one same in omega arith

  pub count_more : (p : A → Bool) (l : List A) (i : ℕ) (a b : A) → get_elem? l i ≡ some a → p a ≡ false → p b ≡ true → count_by p (set l i b) ≡ count_by p l + 1
  count_more p l i a b at no_a is_b = let c = counted p l i a b at in let e : one (p a) ≡ 0 = ap one no_a in let f : one (p b) ≡ 1 = ap one is_b in omega arith

  pub count_less : (p : A → Bool) (l : List A) (i : ℕ) (a b : A) → get_elem? l i ≡ some a → p a ≡ true → p b ≡ false → count_by p (set l i b) + 1 ≡ count_by p l
  count_less p l i a b at is_a no_b = let c = counted p l i a b at in let e : one (p a) ≡ 1 = ap one is_a in let f : one (p b) ≡ 0 = ap one no_b in omega arith

  pub count_snoc : (p : A → Bool) (l : List A) (a : A) → p a ≡ false → count_by p (l ++ a ∷ []) ≡ count_by p l
  count_snoc p l a no_a = let c = sum_by_push (λ x. one (p x)) l a in let e : one (p a) ≡ 0 = ap one no_a in let d : count_by p (l ++ a ∷ []) ≡ count_by p l + one (p a) = c in omega arith

  -- of two places one at most counts, where the count is 1
  pub count_once : (p : A → Bool) (l : List A) (i j : ℕ) (a b : A) → get_elem? l i ≡ some a → get_elem? l j ≡ some b → j ≢ i → count_by p l ≡ 1 → p b ≡ true → p a ≡ false
  count_once p l i j a b at at_j other once is_b = go (p a) refl
    where
      go : (q : Bool) → p a ≡ q → p a ≡ false
      go false e = e
      go true e =
          let two : one (p a) + one (p b) ≤ count_by p l = sum_two (λ x. one (p x)) l i j a b at at_j other in
          let f : one (p a) ≡ 1 = ap one e in
          let g : one (p b) ≡ 1 = ap one is_b in
          absurd (omega arith)

  -- the one place that may count does, where the count is 1
  pub count_here : (p : A → Bool) (l : List A) (i : ℕ) (a : A) → get_elem? l i ≡ some a → ((j : ℕ) (u : A) → j ≢ i → get_elem? l j ≡ some u → p u ≡ false) → count_by p l ≡ 1 → p a ≡ true
  count_here p l i a at others once = go (p a) refl
    where
      none : p a ≡ false → (j : ℕ) (u : A) → get_elem? l j ≡ some u → one (p u) ≡ 0
      none e j u at_u = dite (ℕ_discrete j i) (λ same. ap one (ap p (same_at l i j a u at at_u same) ∙ e)) (λ other. ap one (others j u other at_u))

      go : (q : Bool) → p a ≡ q → p a ≡ true
      go true e = e
      go false e = let z : count_by p l ≡ 0 = sum_none (λ x. one (p x)) l (none e) in absurd (omega arith)

module _ {E : Type 0} where
  pub everywhere_set : (P : View E → Type 0) (l : List (View E)) (i : ℕ) (w : View E) → P w → ((j : ℕ) (u : View E) → j ≢ i → get_elem? l j ≡ some u → P u) → Everywhere P (set l i w)
  everywhere_set P l i w mine others j u e =
      ⊎_elim (λ (x : (j ≡ i) × (w ≡ u)). subst P x.1 mine) (λ (x : (j ≢ i) × (get_elem? l j ≡ some u)). others j u x.0 x.1) (at_set l i j w u e)

  pub everywhere_snoc : (P : View E → Type 0) (l : List (View E)) (w : View E) → P w → Everywhere P l → Everywhere P (l ++ w ∷ [])
  everywhere_snoc P l w mine others j u e = ⊎_elim (λ x. others j u x) (λ (x : w ≡ u). subst P x mine) (at_snoc l w u j e)

  pub somewhere_set : (P : View E → Type 0) (l : List (View E)) (i : ℕ) (v w : View E) → get_elem? l i ≡ some v → (P v → P w) → Somewhere P l → Somewhere P (set l i w)
  somewhere_set P l i v w at keep h = dite (ℕ_discrete h.0 i)
      (λ same. (i, w, set_there l i v w at, keep (subst P (same_at l i h.0 v h.1 at h.2 same) h.3)))
      (λ other. (h.0, h.1, set_else l i h.0 w other ∙ h.2, h.3))

  pub somewhere_snoc : (P : View E → Type 0) (l : List (View E)) (w : View E) → Somewhere P l → Somewhere P (l ++ w ∷ [])
  somewhere_snoc P l w h = (h.0, h.1, at_longer l (w ∷ []) h.0 h.1 h.2, h.3)

  -- the seat that changes holds a ticket that no other has, or none
  pub differ_set : (l : List (View E)) (i : ℕ) (w : View E) → TicketsDiffer l
      → ((t : ℕ) → w.ticket ≡ Some t → (j : ℕ) (u : View E) → j ≢ i → get_elem? l j ≡ some u → u.ticket ≢ Some t)
      → TicketsDiffer (set l i w)
  differ_set l i w old mine a b t x y at_a at_b has_a has_b =
      ⊎_elim
      (λ (p : (a ≡ i) × (w ≡ x)).
      ⊎_elim (λ (q : (b ≡ i) × (w ≡ y)). p.0 ∙ sym q.0)
      (λ (q : (b ≢ i) × (get_elem? l b ≡ some y)). absurd (mine t (ap (λ (z : View E). z.ticket) p.1 ∙ has_a) b y q.0 q.1 has_b))
      (at_set l i b w y at_b))
      (λ (p : (a ≢ i) × (get_elem? l a ≡ some x)).
      ⊎_elim (λ (q : (b ≡ i) × (w ≡ y)). absurd (mine t (ap (λ (z : View E). z.ticket) q.1 ∙ has_b) a x p.0 p.1 has_a))
      (λ (q : (b ≢ i) × (get_elem? l b ≡ some y)). old a b t x y p.1 q.1 has_a has_b)
      (at_set l i b w y at_b))
      (at_set l i a w x at_a)

  -- the seat that changes keeps its ticket
  pub differ_same : (l : List (View E)) (i : ℕ) (v w : View E) → get_elem? l i ≡ some v → w.ticket ≡ v.ticket → TicketsDiffer l → TicketsDiffer (set l i w)
  differ_same l i v w at same old = differ_set l i w old (λ t has j u other at_u q. other (old j i t u v at_u at q (sym same ∙ has)))

  pub differ_snoc : (l : List (View E)) (w : View E) → TicketsDiffer l → w.ticket ≡ None → TicketsDiffer (l ++ w ∷ [])
  differ_snoc l w old idle a b t x y at_a at_b has_a has_b =
      ⊎_elim
      (λ p. ⊎_elim (λ q. old a b t x y p q has_a has_b) (λ (q : w ≡ y). absurd (none_there y q has_b)) (at_snoc l w y b at_b))
      (λ (p : w ≡ x). absurd (none_there x p has_a))
      (at_snoc l w x a at_a)
    where
      none_there : (z : View E) → w ≡ z → z.ticket ≡ Some t → ⊥
      none_there z e has = let e' : None ≡ Some t = sym idle ∙ (ap (λ (z : View E). z.ticket) e ∙ has) in cc (e')

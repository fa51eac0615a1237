-- Lists in order: where a row belongs, what one more makes of them, and what is found in them.
use Rattle.std.proofs.Common.{◌≡◌, ◌<◌, ◌≤◌, ◌∙◌, ℕ, zero, suc, Bool, true, false, cond, List, [], ◌∷◌, length, find, Some, None, refl, sym, ap, arith, Ordering, Less, Equal, Greater, is_eq, Result, Ok, Err}
use Rattle.std.specs.Cmp.{IsTotalOrder}
use Rattle.std.specs.List.{AllByRecursion, AllWithin, HoldsAt, insert, slice_index_or, slice_set}
use Rattle.std.specs.List.Sorted.{IsBinarySearchResult, IsNonDecreasingBy, IsSearchInRange}
use Rattle.std.specs.Ordering.{ordering_index, ordering_reverse}
use Rattle.vdr_alerts.specs.Rows.{AreOrdered, IsPlaced, put, put_at, row_at, with_row}

at_most : (o : Ordering) → ordering_index o ≤ 2
at_most Less = omega arith
at_most Equal = omega arith
at_most Greater = omega arith

-- What holds of all.
pub all_at : {A : Type 0} (P : A → Type 0) (xs : List A) (i : ℕ) (d : A) → AllByRecursion P xs → i < length xs → P (slice_index_or xs i d)
all_at P [] i d h lt = absurd (omega (arith, lt))
all_at P (x ∷ xs) zero d h lt = h.0
all_at P (x ∷ xs) (suc i) d h lt = all_at P xs i d h.1 (omega (arith, lt))

all_so : {A : Type 0} (P Q : A → Type 0) → ((x : A) → P x → Q x) → (xs : List A) → AllByRecursion P xs → AllByRecursion Q xs
all_so P Q f [] h = tt
all_so P Q f (x ∷ xs) h = (f x h.0, all_so P Q f xs h.1)

behind_other : {X : Type 0} (b c : Bool) (m n rest later : X) → (b ≡ true → c ≡ true → ⊥) → later ≡ cond c n rest → cond b m later ≡ cond c n (cond b m rest)
behind_other true true m n rest later apart is = absurd (apart refl refl)
behind_other true false m n rest later apart is = refl
behind_other false c m n rest later apart is = is

in_place : {X : Type 0} (b c : Bool) (m n rest : X) → b ≡ c → cond c n rest ≡ cond c n (cond b m rest)
in_place true true m n rest e = refl
in_place true false m n rest e = let none : ⊥ = cc in absurd none
in_place false c m n rest e = refl

module _ {A : Type 0} (cmp : A → A → Ordering) (total : IsTotalOrder cmp) where
  turned : (x y : A) (o : Ordering) → cmp x y ≡ o → cmp y x ≡ ordering_reverse o
  turned x y o e = total.antisymm y x ∙ ap ordering_reverse e

  before_same : (x y r : A) → cmp x y ≡ Less → cmp y r ≡ Equal → cmp x r ≡ Less
  before_same x y r less same = total.antisymm x r ∙ ap ordering_reverse (sym (total.congr y r x same)) ∙ sym (total.antisymm x y) ∙ less

  index_rises : (x y r : A) (o : Ordering) → cmp y r ≡ o → cmp x y ≡ Less → ordering_index (cmp x r) ≤ ordering_index o
  index_rises x y r Less e less = let is = ap ordering_index (total.trans x y r less e) in omega (arith, is)
  index_rises x y r Equal e less = let is = ap ordering_index (before_same x y r less e) in omega (arith, is)
  index_rises x y r Greater e less = at_most (cmp x r)

  -- The answers rise along the list, as a binary search asks.
  rises : (xs : List A) (r : A) → AreOrdered cmp xs → IsNonDecreasingBy (λ y. ordering_index (cmp y r)) xs
  rises [] r h i j d le lt = absurd (omega (arith, lt))
  rises (x ∷ xs) r h zero zero d le lt = omega arith
  rises (x ∷ xs) r h zero (suc j) d le lt =
      index_rises x (slice_index_or xs j d) r (cmp (slice_index_or xs j d) r) refl (all_at (λ later. cmp x later ≡ Less) xs j d h.0 (omega (arith, lt)))
  rises (x ∷ xs) r h (suc i) zero d le lt = absurd (omega (arith, le))
  rises (x ∷ xs) r h (suc i) (suc j) d le lt = rises xs r h.1 i j d (omega (arith, le)) (omega (arith, lt))

  -- A binary search ends at the row, or where it belongs.
  pub placed : (xs : List A) (r : A) → AreOrdered cmp xs → (result : Result ℕ ℕ) → IsSearchInRange result (length xs) → IsBinarySearchResult (λ y. cmp y r) xs result
      → IsPlaced (λ y. cmp y r) xs result
  placed xs r h (Ok at) within here = (within, here)
  placed xs r h (Err at) within parted = let p = parted (rises xs r h) in (within, p.0, p.1)

  step : (x r : A) (xs : List A) (o : Ordering) → cmp x r ≡ o → put cmp (x ∷ xs) r ≡ put_at o x xs r (put cmp xs r)
  step x r xs o e = ap (λ (o : Ordering). put_at o x xs r (put cmp xs r)) e

  -- The rows before one that counts as the same come before it.
  earlier : (x : A) (xs : List A) (r : A) (i : ℕ) → AreOrdered cmp (x ∷ xs) → i < length xs → HoldsAt (λ y. cmp y r ≡ Equal) xs i → cmp x r ≡ Less
  earlier x xs r i h lt same = before_same x (slice_index_or xs i r) r (all_at (λ later. cmp x later ≡ Less) xs i r h.0 lt) (same r)

  put_here : (xs : List A) (r : A) (i : ℕ) → AreOrdered cmp xs → i < length xs → HoldsAt (λ y. cmp y r ≡ Equal) xs i → put cmp xs r ≡ slice_set xs i r
  put_here [] r i h lt same = absurd (omega (arith, lt))
  put_here (x ∷ xs) r zero h lt same = step x r xs Equal (same r)
  put_here (x ∷ xs) r (suc i) h lt same =
      step x r xs Less (earlier x xs r i h (omega (arith, lt)) same) ∙ ap (λ (l : List A). x ∷ l) (put_here xs r i h.1 (omega (arith, lt)) same)

  put_between : (xs : List A) (r : A) (i : ℕ) → i ≤ length xs → AllWithin (λ y. cmp y r ≡ Less) xs 0 i → AllWithin (λ y. cmp y r ≡ Greater) xs i (length xs)
      → put cmp xs r ≡ insert xs i r
  put_between [] r zero le less more = refl
  put_between [] r (suc i) le less more = absurd (omega (arith, le))
  put_between (x ∷ xs) r zero le less more = step x r xs Greater (more 0 r (omega arith) (omega arith))
  put_between (x ∷ xs) r (suc i) le less more =
      step x r xs Less (less 0 r (omega arith) (omega arith))
      ∙ ap (λ (l : List A). x ∷ l) (put_between xs r i (omega (arith, le)) (λ k d low high. less (suc k) d (omega arith) (omega (arith, high))) (λ k d low high. more (suc k) d (omega (arith, low)) (omega (arith, high))))

  -- The list with the row, by its place.
  pub put_placed : (xs : List A) (r : A) → AreOrdered cmp xs → (place : Result ℕ ℕ) → IsPlaced (λ y. cmp y r) xs place → with_row place xs r ≡ put cmp xs r
  put_placed xs r h (Ok at) p = sym (put_here xs r at h p.0 p.1)
  put_placed xs r h (Err at) p = sym (put_between xs r at p.0 p.1 p.2)

  -- The row that counts as the same as this one.
  abbrev pub same_as : A → A → Bool
  same_as k y = is_eq (cmp y k)

  find_here : (xs : List A) (r : A) (i : ℕ) → AreOrdered cmp xs → i < length xs → HoldsAt (λ y. cmp y r ≡ Equal) xs i → row_at (Ok i) xs ≡ find (same_as r) xs
  find_here [] r i h lt same = absurd (omega (arith, lt))
  find_here (x ∷ xs) r zero h lt same = sym (ap (λ (o : Ordering). cond (is_eq o) (Some x) (find (same_as r) xs)) (same r))
  find_here (x ∷ xs) r (suc i) h lt same =
      find_here xs r i h.1 (omega (arith, lt)) same ∙ sym (ap (λ (o : Ordering). cond (is_eq o) (Some x) (find (same_as r) xs)) (earlier x xs r i h (omega (arith, lt)) same))

  none_here : (xs : List A) (r : A) (i : ℕ) → AllWithin (λ y. cmp y r ≡ Less) xs 0 i → AllWithin (λ y. cmp y r ≡ Greater) xs i (length xs) → None ≡ find (same_as r) xs
  none_here [] r i less more = refl
  none_here (x ∷ xs) r zero less more =
      none_here xs r zero (λ k d low high. absurd (omega (arith, high))) (λ k d low high. more (suc k) d (omega arith) (omega (arith, high)))
      ∙ sym (ap (λ (o : Ordering). cond (is_eq o) (Some x) (find (same_as r) xs)) (more 0 r (omega arith) (omega arith)))
  none_here (x ∷ xs) r (suc i) less more =
      none_here xs r i (λ k d low high. less (suc k) d (omega arith) (omega (arith, high))) (λ k d low high. more (suc k) d (omega (arith, low)) (omega (arith, high)))
      ∙ sym (ap (λ (o : Ordering). cond (is_eq o) (Some x) (find (same_as r) xs)) (less 0 r (omega arith) (omega arith)))

  -- What stands at the place.
  pub find_placed : (xs : List A) (r : A) → AreOrdered cmp xs → (place : Result ℕ ℕ) → IsPlaced (λ y. cmp y r) xs place → row_at place xs ≡ find (same_as r) xs
  find_placed xs r h (Ok at) p = find_here xs r at h p.0 p.1
  find_placed xs r h (Err at) p = none_here xs r at p.1 p.2

  all_with : (P : A → Type 0) (xs : List A) (r : A) → AllByRecursion P xs → P r → AllByRecursion P (put cmp xs r)
  all_with P [] r h p = (p, tt)
  all_with P (x ∷ xs) r h p = go (cmp x r) (all_with P xs r h.1 p)
    where
      go : (o : Ordering) → AllByRecursion P (put cmp xs r) → AllByRecursion P (put_at o x xs r (put cmp xs r))
      go Less later = (h.0, later)
      go Equal later = (p, h.1)
      go Greater later = (p, h)

  -- With one more row it is in order.
  pub ordered_with : (xs : List A) (r : A) → AreOrdered cmp xs → AreOrdered cmp (put cmp xs r)
  ordered_with [] r h = (tt, tt)
  ordered_with (x ∷ xs) r h = go (cmp x r) refl (ordered_with xs r h.1)
    where
      go : (o : Ordering) → cmp x r ≡ o → AreOrdered cmp (put cmp xs r) → AreOrdered cmp (put_at o x xs r (put cmp xs r))
      go Less e later = (all_with (λ later. cmp x later ≡ Less) xs r h.0 e, later)
      go Equal e later = (all_so (λ later. cmp x later ≡ Less) (λ later. cmp r later ≡ Less) (λ y less. sym (total.congr x r y e) ∙ less) xs h.0, h.1)
      go Greater e later =
          let first : cmp r x ≡ Less = turned x r Greater e in
          ((first, all_so (λ later. cmp x later ≡ Less) (λ later. cmp r later ≡ Less) (λ y less. total.trans r x y first less) xs h.0), h)

  -- Of two rows that count as the same as a third each counts as the other.
  joined : (x r k : A) → same_as k x ≡ true → same_as k r ≡ true → cmp x r ≡ Equal
  joined x r k p q = total.congr x k r (equal (cmp x k) p) ∙ turned r k Equal (equal (cmp r k) q)
    where
      equal : (o : Ordering) → is_eq o ≡ true → o ≡ Equal
      equal Less p = let none : ⊥ = cc in absurd none
      equal Equal p = refl
      equal Greater p = let none : ⊥ = cc in absurd none

  -- What is found once there is one more row.
  pub found_with : (xs : List A) (r k : A) → find (same_as k) (put cmp xs r) ≡ cond (same_as k r) (Some r) (find (same_as k) xs)
  found_with [] r k = refl
  found_with (x ∷ xs) r k = ap (find (same_as k)) (step x r xs (cmp x r) refl) ∙ go (cmp x r) refl (found_with xs r k)
    where
      go : (o : Ordering) → cmp x r ≡ o → find (same_as k) (put cmp xs r) ≡ cond (same_as k r) (Some r) (find (same_as k) xs)
          → find (same_as k) (put_at o x xs r (put cmp xs r)) ≡ cond (same_as k r) (Some r) (find (same_as k) (x ∷ xs))
      go Less e later =
          behind_other (same_as k x) (same_as k r) (Some x) (Some r) (find (same_as k) xs) (find (same_as k) (put cmp xs r))
          (λ p q. let same = joined x r k p q in let none : ⊥ = cc in absurd none) later
      go Equal e later = in_place (same_as k x) (same_as k r) (Some x) (Some r) (find (same_as k) xs) (ap is_eq (total.congr x r k e))
      go Greater e later = refl

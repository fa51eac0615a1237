-- How many segments a part of the records touches, where the part begins once and never ends, or is a run of places.
use Rattle.std.proofs.Common.{ℕ, ◌+◌, ◌<◌, ◌≤◌, List, [], ◌∷◌, Bool, true, false, cond, not, ◌&&◌, ◌||◌, Contains, count_by, ◌≡◌, ⊎_elim, refl, sym, ap, ◌∙◌, subst, arith}
use Rattle.std.specs.List.{list_any}
use Rattle.std.proofs.lemmas.Bool.{cases_Bool, or_cases, or_parts, or_left, or_right, and_parts, and_cases, and_from, not-true, not-false, cond-false, true≢false}
use Rattle.std.proofs.lemmas.List.Sums.{sum_by-cons}
use Rattle.vdr_terms.specs.Records.{Record}
use Rattle.vdr_terms.specs.Order.{AreInOrder}
use Rattle.vdr_durability.specs.Layout.{Batches, records_in, segment_records}
use Rattle.vdr_durability.proofs.Lists.{none_contained, contains_here, contains_there, contains_cases, contains_flat}
use Rattle.vdr_durability.proofs.Ordered.{parts_in_order}

pub any_there : {X : Type 0} (p : X → Bool) (xs : List X) → list_any p xs ≡ true → (x : X) × Contains xs x × (p x ≡ true)
any_there p [] h = absurd (true≢false (sym h))
any_there p (x ∷ xs) h =
    ⊎_elim
    (λ (e : p x ≡ true). (x, contains_here x xs, e))
    (λ (e : list_any p xs ≡ true). let k = any_there p xs e in (k.0, contains_there x xs k.0 k.1, k.2))
    (or_cases (p x) (list_any p xs) h)

pub none_there : {X : Type 0} (p : X → Bool) (xs : List X) → list_any p xs ≡ false → (x : X) → Contains xs x → p x ≡ false
none_there p [] h x m = absurd (none_contained x m)
none_there p (y ∷ ys) h x m =
    ⊎_elim
    (λ (e : y ≡ x). ap p (sym e) ∙ (or_parts (p y) (list_any p ys) h).0)
    (λ (k : Contains ys x). none_there p ys (or_parts (p y) (list_any p ys) h).1 x k)
    (contains_cases y ys x m)

pub no_any : {X : Type 0} (p : X → Bool) (xs : List X) → ((x : X) → Contains xs x → p x ≡ false) → list_any p xs ≡ false
no_any p [] h = refl
no_any p (x ∷ xs) h = subst (λ (t : Bool). (t || list_any p xs) ≡ false) (sym (h x (contains_here x xs))) (no_any p xs (λ y m. h y (contains_there x xs y m)))

pub any_from : {X : Type 0} (p : X → Bool) (xs : List X) (x : X) → Contains xs x → p x ≡ true → list_any p xs ≡ true
any_from p [] x m e = absurd (none_contained x m)
any_from p (y ∷ ys) x m e =
    ⊎_elim
    (λ (k : y ≡ x). or_left (p y) (list_any p ys) (ap p k ∙ e))
    (λ (k : Contains ys x). or_right (p y) (list_any p ys) (any_from p ys x k e))
    (contains_cases y ys x m)

pub count_none : {X : Type 0} (p : X → Bool) (xs : List X) → ((x : X) → Contains xs x → p x ≡ false) → count_by p xs ≡ 0
count_none p [] h = refl
count_none p (x ∷ xs) h =
    let a = sum_by-cons (λ x. cond (p x) 1 0) x xs in
    let b = count_none p xs (λ y m. h y (contains_there x xs y m)) in
    let c = cond-false {A = ℕ} (p x) 1 0 (h x (contains_here x xs)) in
    omega (arith, a, b, c)

-- each that passes p passes f or g
pub count_either : {X : Type 0} (p f g : X → Bool) (xs : List X) → ((x : X) → p x ≡ true → (f x || g x) ≡ true) → count_by p xs ≤ count_by f xs + count_by g xs
count_either p f g [] h = omega arith
count_either p f g (x ∷ xs) h =
    let a = sum_by-cons (λ x. cond (p x) 1 0) x xs in
    let b = sum_by-cons (λ x. cond (f x) 1 0) x xs in
    let c = sum_by-cons (λ x. cond (g x) 1 0) x xs in
    let d = count_either p f g xs h in
    let e = one (p x) (f x) (g x) (h x) in
    omega (arith, a, b, c, d, e)
  where
    one : (p f g : Bool) → (p ≡ true → (f || g) ≡ true) → cond p 1 0 ≤ cond f 1 0 + cond g 1 0
    one false f g h = omega arith
    one true true g h = omega arith
    one true false true h = omega arith
    one true false false h = absurd (true≢false (sym (h refl)))

abbrev pub touches : (Record → Bool) → Batches → Bool
touches p segment = list_any p (segment_records segment)

abbrev pub inside : (Record → Bool) → Batches → Bool
inside p segment = not (list_any (λ r. not (p r)) (segment_records segment))

abbrev pub mixed : (Record → Bool) → Batches → Bool
mixed p segment = list_any p (segment_records segment) && list_any (λ r. not (p r)) (segment_records segment)

and_false : (t : Bool) → (t && false) ≡ false
and_false true = refl
and_false false = refl

-- the test passes from some record on
abbrev pub Begins : (Record → Bool) → Type 0
Begins p = (x y : Record) → x.place < y.place → x.tick ≤ y.tick → p x ≡ true → p y ≡ true

-- one segment at most is partly within
pub one_mixed : (p : Record → Bool) → Begins p → (segments : List Batches) → AreInOrder (records_in segments) → count_by (mixed p) segments ≤ 1
one_mixed p begins [] order = omega arith
one_mixed p begins (s ∷ ss) order =
    let parts = parts_in_order (segment_records s) (records_in ss) order in
    let a = sum_by-cons (λ (s : Batches). cond (mixed p s) 1 0) s ss in
    ⊎_elim
    (λ (e : list_any p (segment_records s) ≡ true).
    let x = any_there p (segment_records s) e in
    let none : count_by (mixed p) ss ≡ 0 = count_none (mixed p) ss (λ t m. later_whole x.0 x.1 x.2 t m parts.2) in
    let c = at_most (mixed p s) in
    omega (arith, a, none, c))
    (λ (e : list_any p (segment_records s) ≡ false).
    let b = one_mixed p begins ss parts.1 in
    let c = cond-false {A = ℕ} (mixed p s) 1 0 (ap (λ (t : Bool). t && list_any (λ r. not (p r)) (segment_records s)) e) in
    omega (arith, a, b, c))
    (cases_Bool (list_any p (segment_records s)))
  where
    at_most : (t : Bool) → cond t 1 0 ≤ 1
    at_most true = omega arith
    at_most false = omega arith

    later_whole : (x : Record) → Contains (segment_records s) x → p x ≡ true → (t : Batches) → Contains ss t
        → ((x y : Record) → Contains (segment_records s) x → Contains (records_in ss) y → (x.place < y.place) × (x.tick ≤ y.tick)) → mixed p t ≡ false
    later_whole x m e t k across =
        ap (λ (u : Bool). list_any p (segment_records t) && u) (no_any (λ r. not (p r)) (segment_records t) (λ y n. ap not (let c = across x y m (contains_flat segment_records ss t y k n) in begins x y c.0 c.1 e)))
        ∙ and_false (list_any p (segment_records t))

-- what is touched is inside, or mixed
pub count_touched : (p : Record → Bool) → Begins p → (segments : List Batches) → AreInOrder (records_in segments)
    → count_by (touches p) segments ≤ count_by (inside p) segments + 1
count_touched p begins segments order =
    let a = count_either (touches p) (inside p) (mixed p) segments (λ s e. either (touches p s) (list_any (λ r. not (p r)) (segment_records s)) e) in
    let b = one_mixed p begins segments order in
    omega (arith, a, b)
  where
    either : (t u : Bool) → t ≡ true → (not u || (t && u)) ≡ true
    either true true e = refl
    either true false e = refl
    either false u e = absurd (true≢false (sym e))

-- the same of what begins by one test and ends by another
pub count_touched_both : (p q : Record → Bool) → Begins p → Begins q → (segments : List Batches) → AreInOrder (records_in segments)
    → count_by (touches (λ r. p r && not (q r))) segments ≤ count_by (inside (λ r. p r && not (q r))) segments + 2
count_touched_both p q begins ends segments order =
    let a : count_by (touches both) segments ≤ count_by (inside both) segments + count_by (λ s. mixed p s || mixed q s) segments = count_either (touches both) (inside both) (λ s. mixed p s || mixed q s) segments split in
    let b = count_either (λ s. mixed p s || mixed q s) (mixed p) (mixed q) segments (λ s e. e) in
    let c = one_mixed p begins segments order in
    let d = one_mixed q ends segments order in
    omega (arith, a, b, c, d)
  where
    both : Record → Bool
    both r = p r && not (q r)

    split : (s : Batches) → touches both s ≡ true → (inside both s || (mixed p s || mixed q s)) ≡ true
    split s e =
        let x = any_there both (segment_records s) e in
        let passes = and_parts (p x.0) (not (q x.0)) x.2 in
        ⊎_elim
        (λ (some : list_any (λ r. not (both r)) (segment_records s) ≡ true).
        let y = any_there (λ r. not (both r)) (segment_records s) some in
        ⊎_elim
        (λ (off : p y.0 ≡ false). or_right (inside both s) (mixed p s || mixed q s) (or_left (mixed p s) (mixed q s)
        (and_from (list_any p (segment_records s)) (list_any (λ r. not (p r)) (segment_records s)) (any_from p (segment_records s) x.0 x.1 passes.0) (any_from (λ r. not (p r)) (segment_records s) y.0 y.1 (ap not off)))))
        (λ (off : not (q y.0) ≡ false). or_right (inside both s) (mixed p s || mixed q s) (or_right (mixed p s) (mixed q s)
        (and_from (list_any q (segment_records s)) (list_any (λ r. not (q r)) (segment_records s)) (any_from q (segment_records s) y.0 y.1 (not-false (q y.0) off)) (any_from (λ r. not (q r)) (segment_records s) x.0 x.1 passes.1))))
        (and_cases (p y.0) (not (q y.0)) (not-true (both y.0) y.2)))
        (λ (none : list_any (λ r. not (both r)) (segment_records s) ≡ false). or_left (inside both s) (mixed p s || mixed q s) (ap not none))
        (cases_Bool (list_any (λ r. not (both r)) (segment_records s)))

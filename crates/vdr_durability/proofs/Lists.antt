-- What a list contains, its last element, and the records of segments.
use Rattle.std.proofs.Common.{ℕ, ◌≤◌, List, [], ◌∷◌, ◌++◌, Bool, true, filter, flat_map, All, Contains, Some, None, ◌≡◌, ◌⊎◌, inl, inr, ⊎_elim, refl, sym, ap, ◌∙◌, subst, append-nil, arith}
use Rattle.std.proofs.lemmas.Bool.{cond-true, cond_both}
use Rattle.std.proofs.lemmas.List.Elements.{All-contains, All-cons, All-nil, Contains-append_left, Contains-append_right, Contains-append_cases, Contains-push, Contains-push_cases, filter_passes}
use Rattle.std.proofs.lemmas.Grind.{flat_map-append}
use Rattle.vdr_terms.specs.Records.{Record, last_after, last}
use Rattle.vdr_terms.specs.Order.{NeverFalls}
use Rattle.vdr_durability.specs.Layout.{Batches, batches_in, records_in, segment_records}

pub none_contained : {X : Type 0} (x : X) → Contains [] x → ⊥
none_contained x h = omega (arith, h.1)

pub contains_here : {X : Type 0} (x : X) (xs : List X) → Contains (x ∷ xs) x
contains_here x xs = Contains-append_left (x ∷ []) xs x (Contains-push [] x)

pub contains_there : {X : Type 0} (y : X) (xs : List X) (x : X) → Contains xs x → Contains (y ∷ xs) x
contains_there y xs x h = Contains-append_right (y ∷ []) xs x h

pub contains_cases : {X : Type 0} (y : X) (xs : List X) (x : X) → Contains (y ∷ xs) x → (y ≡ x) ⊎ Contains xs x
contains_cases {X} y xs x h =
    ⊎_elim
    (λ (k : Contains (y ∷ []) x). inl (⊎_elim (λ (n : Contains {X = X} [] x). absurd (none_contained x n)) (λ (e : y ≡ x). e) (Contains-push_cases [] y x k)))
    (λ (k : Contains xs x). inr k)
    (Contains-append_cases (y ∷ []) xs x h)

pub contains_filter : {X : Type 0} (p : X → Bool) (xs : List X) (x : X) → Contains xs x → p x ≡ true → Contains (filter p xs) x
contains_filter p [] x h e = absurd (none_contained x h)
contains_filter {X} p (y ∷ ys) x h e =
    ⊎_elim
    (λ (q : y ≡ x). subst (λ (zs : List X). Contains zs x) (sym (cond-true (p y) (y ∷ filter p ys) (filter p ys) (ap p q ∙ e)))
    (subst (λ (z : X). Contains (y ∷ filter p ys) z) q (contains_here y (filter p ys))))
    (λ (k : Contains ys x). cond_both (p y) (y ∷ filter p ys) (filter p ys) (λ (zs : List X). Contains zs x)
    (λ _. contains_there y (filter p ys) x (contains_filter p ys x k e)) (λ _. contains_filter p ys x k e))
    (contains_cases y ys x h)

-- what a filter keeps was there, and passes
pub filter_was : {X : Type 0} (p : X → Bool) (xs : List X) (x : X) → Contains (filter p xs) x → Contains xs x
filter_was p [] x h = h
filter_was {X} p (y ∷ ys) x h =
    cond_both (p y) (y ∷ filter p ys) (filter p ys) (λ (zs : List X). Contains zs x → Contains (y ∷ ys) x)
    (λ _ k. ⊎_elim (λ (q : y ≡ x). subst (λ (z : X). Contains (y ∷ ys) z) q (contains_here y ys))
    (λ (m : Contains (filter p ys) x). contains_there y ys x (filter_was p ys x m)) (contains_cases y (filter p ys) x k))
    (λ _ k. contains_there y ys x (filter_was p ys x k))
    h

pub filter_test : {X : Type 0} (p : X → Bool) (xs : List X) (x : X) → Contains (filter p xs) x → p x ≡ true
filter_test p xs x h = All-contains (λ x. p x ≡ true) (filter p xs) x (filter_passes p xs) h

-- a fact of each element, by what the list contains
pub all_from : {X : Type 0} (P : X → Type 0) (xs : List X) → ((x : X) → Contains xs x → P x) → All P xs
all_from P [] h = All-nil P
all_from P (x ∷ xs) h = All-cons P x xs (h x (contains_here x xs)) (all_from P xs (λ y k. h y (contains_there x xs y k)))

last_after_append : {X : Type 0} (x : X) (xs : List X) (y : X) (ys : List X) → last_after x (xs ++ y ∷ ys) ≡ last_after y ys
last_after_append x [] y ys = refl
last_after_append x (z ∷ zs) y ys = last_after_append z zs y ys

-- the last of a list that has more behind it
pub last_behind : {X : Type 0} (xs : List X) (y : X) (ys : List X) → last (xs ++ y ∷ ys) ≡ Some (last_after y ys)
last_behind [] y ys = refl
last_behind (x ∷ xs) y ys = ap Some (last_after_append x xs y ys)

last_after_contained : {X : Type 0} (x : X) (xs : List X) → Contains (x ∷ xs) (last_after x xs)
last_after_contained x [] = contains_here x []
last_after_contained x (y ∷ ys) = contains_there x (y ∷ ys) (last_after y ys) (last_after_contained y ys)

pub last_contained : {X : Type 0} (xs : List X) (x : X) → last xs ≡ Some x → Contains xs x
last_contained [] x e = absurd (no e)
  where
    no : None ≡ Some x → ⊥
    no e = cc
last_contained {X} (y ∷ ys) x e = subst (λ (z : X). Contains (y ∷ ys) z) (same e) (last_after_contained y ys)
  where
    same : Some (last_after y ys) ≡ Some x → last_after y ys ≡ x
    same e = cc

pub contains_flat : {X Y : Type 0} (f : X → List Y) (xs : List X) (x : X) (y : Y) → Contains xs x → Contains (f x) y → Contains (flat_map f xs) y
contains_flat f [] x y h k = absurd (none_contained x h)
contains_flat {X} f (z ∷ zs) x y h k =
    ⊎_elim
    (λ (e : z ≡ x). Contains-append_left (f z) (flat_map f zs) y (subst (λ (w : X). Contains (f w) y) (sym e) k))
    (λ (m : Contains zs x). Contains-append_right (f z) (flat_map f zs) y (contains_flat f zs x y m k))
    (contains_cases z zs x h)

-- the records of the older segments, then those of the newest
pub records_split : (older : List Batches) (newest : Batches) → records_in (older ++ newest ∷ []) ≡ records_in older ++ segment_records newest
records_split older newest = flat_map-append segment_records older (newest ∷ []) ∙ ap (λ (xs : List Record). records_in older ++ xs) (append-nil (segment_records newest))

-- The batches of segments have their records.
pub records_of_batches : (segments : List Batches) → segment_records (batches_in segments) ≡ records_in segments
records_of_batches [] = refl
records_of_batches (s ∷ segments) = flat_map-append (λ (b : List Record). b) s (batches_in segments) ∙ ap (λ (xs : List Record). segment_records s ++ xs) (records_of_batches segments)

-- Ticks that do not fall are at least the first.
pub ticks_from : (from : ℕ) (rs : List Record) (r : Record) → NeverFalls from rs → Contains rs r → from ≤ r.tick
ticks_from from [] r h m = absurd (none_contained r m)
ticks_from from (x ∷ xs) r h m =
    ⊎_elim
    (λ (e : x ≡ r). let a = h.0 in let b = ap (λ (r : Record). r.tick) e in let c : from ≤ r.tick = omega (arith, a, b) in c)
    (λ (k : Contains xs r). let a = h.0 in let b = ticks_from x.tick xs r h.1 k in let c : from ≤ r.tick = omega (arith, a, b) in c)
    (contains_cases x xs r m)

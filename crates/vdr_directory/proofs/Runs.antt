-- Records whose places run on and whose ticks never fall: joined, and at their ends.
use Rattle.std.proofs.Common.{◌≡◌, ◌≢◌, ◌<◌, ◌≤◌, ◌+◌, ◌-◌, ℕ, suc, List, [], ◌∷◌, ◌++◌, length, get_or, slice_get, Contains, Some, None, ⊎_elim, refl, sym, ap, ◌∙◌, arith}
use Rattle.std.proofs.lemmas.Option.{none-some, same_Some, slice_get-get_or}
use Rattle.vdr_terms.specs.Records.{Record, last_after, last}
use Rattle.vdr_terms.specs.Order.{RunOn, NeverFalls}
use Rattle.vdr_terms.proofs.Running.{never_falls_behind}
use Rattle.vdr_durability.proofs.Lists.{none_contained, contains_cases, last_behind}
use Rattle.vdr_directory.specs.Growing.{tick_of}

-- Lists, empty and not

pub nil_right : {X : Type 0} (xs ys : List X) → xs ++ ys ≡ [] → ys ≡ []
nil_right [] ys e = e
nil_right (x ∷ xs) ys e = cc

pub positive_length : {X : Type 0} (xs : List X) → xs ≢ [] → 0 < length xs
positive_length [] some = absurd (some refl)
positive_length (x ∷ xs) some = omega arith

pub nil_from_last : {X : Type 0} (xs : List X) → last xs ≡ None → xs ≡ []
nil_from_last [] e = refl
nil_from_last (x ∷ xs) e = absurd (none-some (last_after x xs) (sym e))

-- The last of two lists is that of the second, if it has any.
pub last_behind_some : {X : Type 0} (xs ys : List X) → ys ≢ [] → last (xs ++ ys) ≡ last ys
last_behind_some xs [] some = absurd (some refl)
last_behind_some xs (y ∷ ys) some = last_behind xs y ys

pub last_at : {X : Type 0} (xs : List X) → slice_get xs (length xs - 1) ≡ last xs
last_at [] = refl
last_at (x ∷ []) = refl
last_at (x ∷ y ∷ ys) =
    let e : length (x ∷ y ∷ ys) - 1 ≡ suc (length (y ∷ ys) - 1) = omega arith in
    ap (λ (i : ℕ). slice_get (x ∷ y ∷ ys) i) e ∙ last_at (y ∷ ys)

pub last_index : {X : Type 0} (xs ys : List X) (d : X) → ys ≡ xs → 0 < length xs → last xs ≡ Some (get_or ys (length ys - 1) d)
last_index xs ys d e some = let k = ap length e in sym (last_at ys ∙ ap last e) ∙ slice_get-get_or ys (length ys - 1) d (omega (arith, k, some))

pub record EndsWith {X : Type 0} (xs : List X) (x : X) : Type 0 where
  pub older : List X
  pub split : xs ≡ older ++ x ∷ []

pub ends_with : {X : Type 0} (xs : List X) (x : X) → last xs ≡ Some x → EndsWith xs x
ends_with [] x h = absurd (none-some x h)
ends_with (y ∷ []) x h = record { older = []; split = ap (λ z. z ∷ []) (same_Some y x h) }
ends_with (y ∷ z ∷ zs) x h = let k = ends_with (z ∷ zs) x h in record { older = y ∷ k.older; split = ap (λ l. y ∷ l) k.split }

-- Joined

pub never_falls_less : (from to : ℕ) (rs : List Record) → from ≤ to → NeverFalls to rs → NeverFalls from rs
never_falls_less from to [] le h = tt
never_falls_less from to (r ∷ rs) le h = let a = h.0 in (omega (arith, le, a), h.1)

pub never_falls_join : (from : ℕ) (xs ys : List Record) → NeverFalls from xs → (xs ≡ [] → NeverFalls from ys) → NeverFalls (tick_of (last xs)) ys → NeverFalls from (xs ++ ys)
never_falls_join from [] ys h none k = none refl
never_falls_join from (x ∷ xs) ys h none k = (h.0, never_falls_behind x xs ys h.1 k)

-- Their bounds

-- the place after the last
pub after_last : (place : ℕ) (rs : List Record) (r : Record) → RunOn place rs → last rs ≡ Some r → suc r.place ≡ place + length rs
after_last place [] r h e = absurd (none-some r e)
after_last place (x ∷ []) r h e = let a = h.0 in let b = ap (λ (r : Record). r.place) (same_Some x r e) in omega (arith, a, b)
after_last place (x ∷ y ∷ ys) r h e = let a = after_last (suc place) (y ∷ ys) r h.1 e in omega (arith, a)

pub first_to_last : (x : Record) (xs : List Record) → NeverFalls x.tick xs → x.tick ≤ (last_after x xs).tick
first_to_last x [] h = omega arith
first_to_last x (y ∷ ys) h = let a = h.0 in let b = first_to_last y ys h.1 in omega (arith, a, b)

pub ticks_to_last : (from : ℕ) (rs : List Record) (r : Record) → NeverFalls from rs → Contains rs r → r.tick ≤ tick_of (last rs)
ticks_to_last from [] r h m = absurd (none_contained r m)
ticks_to_last from (x ∷ []) r h m =
    ⊎_elim
    (λ (e : x ≡ r). let b = ap (λ (r : Record). r.tick) e in let c : r.tick ≤ x.tick = omega (arith, b) in c)
    (λ (k : Contains [] r). absurd (none_contained r k))
    (contains_cases x [] r m)
ticks_to_last from (x ∷ y ∷ ys) r h m =
    ⊎_elim
    (λ (e : x ≡ r). let a = first_to_last x (y ∷ ys) h.1 in let b = ap (λ (r : Record). r.tick) e in let c : r.tick ≤ (last_after y ys).tick = omega (arith, a, b) in c)
    (λ (k : Contains (y ∷ ys) r). ticks_to_last x.tick (y ∷ ys) r h.1 k)
    (contains_cases x (y ∷ ys) r m)

pub tick_behind : (xs ys : List Record) → tick_of (last ys) ≤ tick_of (last (xs ++ ys))
tick_behind xs [] = omega arith
tick_behind xs (y ∷ ys) = let e : tick_of (last (xs ++ y ∷ ys)) ≡ (last_after y ys).tick = ap tick_of (last_behind xs y ys) in omega (arith, e)

-- From one list to the next

pub ticks_on : (qs rs : List Record) → NeverFalls 0 rs → ((r s : Record) → last qs ≡ Some r → slice_get rs 0 ≡ Some s → r.tick ≤ s.tick) → NeverFalls (tick_of (last qs)) rs
ticks_on [] rs h k = h
ticks_on (q ∷ qs) [] h k = tt
ticks_on (q ∷ qs) (r ∷ rs) h k = (k (last_after q qs) r refl refl, h.1)

pub ticks_between : (qs rs : List Record) → NeverFalls (tick_of (last qs)) rs → (r s : Record) → last qs ≡ Some r → slice_get rs 0 ≡ Some s → r.tick ≤ s.tick
ticks_between qs [] h r s e f = absurd (none-some s f)
ticks_between qs (x ∷ xs) h r s e f = let a = h.0 in let b : tick_of (last qs) ≡ r.tick = ap tick_of e in let c = ap (λ (r : Record). r.tick) (same_Some x s f) in omega (arith, a, b, c)

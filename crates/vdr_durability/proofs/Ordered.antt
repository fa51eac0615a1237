-- Records in order: a window is a part of them, and what is held of it is exactly the window.
use Rattle.std.proofs.Common.{ℕ, suc, ◌+◌, ◌<◌, ◌≤◌, List, [], ◌∷◌, ◌++◌, length, Bool, filter, slice_get, All, Contains, Option, Some, None, option_map, ◌≡◌, ⊎_elim, refl, sym, ap, ap₂, ◌∙◌, subst, arith, append-nil}
use Rattle.std.proofs.lemmas.Bool.{cond_both, and_parts, leb-true}
use Rattle.std.proofs.lemmas.List.Elements.{All-contains, All-cons, All-nil, All-append, All-filter, Contains-append_left, Contains-append_right}
use Rattle.vdr_terms.specs.Records.{Record, second, last_after, last}
use Rattle.vdr_terms.specs.Windows.{in_window, window_before, window, HasWindowPlaces}
use Rattle.vdr_terms.specs.Order.{NeverFalls, RunOn, AreInOrder}
use Rattle.vdr_durability.specs.Retention.{AreAmong, Holds, HoldsPlaces, IsNoEarlier, at_places, within}
use Rattle.vdr_durability.proofs.Lists.{none_contained, contains_here, contains_there, contains_cases, contains_filter, filter_was, filter_test, all_from, last_behind, last_contained}
use Rattle.vdr_durability.proofs.Retained.{IsRecent, recent, in_the_window}

abbrev pub IsBefore : Record → Record → Type 0
IsBefore r later = (r.place < later.place) × (r.tick ≤ later.tick)

-- of two records the one of the lower place is no later
pub by_place : (xs : List Record) (x y : Record) → AreInOrder xs → Contains xs x → Contains xs y → x.place ≤ y.place → x.tick ≤ y.tick
by_place [] x y h p q e = absurd (none_contained x p)
by_place (z ∷ zs) x y (first, more) p q e =
    ⊎_elim
    (λ (a : z ≡ x). ⊎_elim
    (λ (b : z ≡ y). let c : x ≡ y = sym a ∙ b in let d = ap (λ (r : Record). r.tick) c in omega (arith, d))
    (λ (b : Contains zs y). subst (λ (r : Record). r.tick ≤ y.tick) a (All-contains (IsBefore z) zs y first b).1)
    (contains_cases z zs y q))
    (λ (a : Contains zs x). ⊎_elim
    (λ (b : z ≡ y). let c = (All-contains (IsBefore z) zs x first a).0 in let d = ap (λ (r : Record). r.place) b in absurd (omega (arith, c, d, e)))
    (λ (b : Contains zs y). by_place zs x y more a b e)
    (contains_cases z zs y q))
    (contains_cases z zs x p)

-- the last of records in order has the greatest place and tick
pub no_later : (x : Record) (xs : List Record) (r : Record) → AreInOrder (x ∷ xs) → Contains (x ∷ xs) r → (r.place ≤ (last_after x xs).place) × (r.tick ≤ (last_after x xs).tick)
no_later x [] r order m =
    ⊎_elim
    (λ (e : x ≡ r). let p = ap (λ (r : Record). r.place) e in let t = ap (λ (r : Record). r.tick) e in (omega (arith, p), omega (arith, t)))
    (λ (k : Contains [] r). absurd (none_contained r k))
    (contains_cases x [] r m)
no_later x (y ∷ ys) r order m =
    ⊎_elim
    (λ (e : x ≡ r).
    let p = ap (λ (r : Record). r.place) e in
    let t = ap (λ (r : Record). r.tick) e in
    let a = All-contains (IsBefore x) (y ∷ ys) y order.0 (contains_here y ys) in
    let b = no_later y ys y order.1 (contains_here y ys) in
    let c = a.0 in let d = a.1 in let f = b.0 in let g = b.1 in
    (omega (arith, p, c, f), omega (arith, t, d, g)))
    (λ (k : Contains (y ∷ ys) r). no_later y ys r order.1 k)
    (contains_cases x (y ∷ ys) r m)

pub latest : (x : Record) (xs : List Record) (r : Record) → AreInOrder (x ∷ xs) → Contains (x ∷ xs) r → r.tick ≤ (last_after x xs).tick
latest x xs r order m = (no_later x xs r order m).1

pub filter_in_order : (p : Record → Bool) (xs : List Record) → AreInOrder xs → AreInOrder (filter p xs)
filter_in_order p [] h = tt
filter_in_order p (x ∷ xs) (first, more) =
    cond_both (p x) (x ∷ filter p xs) (filter p xs) AreInOrder
    (λ _. (All-filter p (IsBefore x) xs first, filter_in_order p xs more))
    (λ _. filter_in_order p xs more)

-- two lists in order that have the same records are one
pub same_in_order : (xs ys : List Record) → AreInOrder xs → AreInOrder ys → AreAmong xs ys → AreAmong ys xs → xs ≡ ys
same_in_order [] [] h k p q = refl
same_in_order [] (y ∷ ys) h k p q = absurd (none_contained y (All-contains (Contains []) (y ∷ ys) y q (contains_here y ys)))
same_in_order (x ∷ xs) [] h k p q = absurd (none_contained x (All-contains (Contains []) (x ∷ xs) x p (contains_here x xs)))
same_in_order (x ∷ xs) (y ∷ ys) (first, more) (first', more') p q = ap₂ (λ (z : Record) (zs : List Record). z ∷ zs) heads (same_in_order xs ys more more' tails tails')
  where
    heads : x ≡ y
    heads = ⊎_elim
        (λ (a : y ≡ x). sym a)
        (λ (a : Contains ys x). ⊎_elim
        (λ (b : x ≡ y). b)
        (λ (b : Contains xs y).
        let c = (All-contains (IsBefore y) ys x first' a).0 in
        let d = (All-contains (IsBefore x) xs y first b).0 in
        absurd (omega (arith, c, d)))
        (contains_cases x xs y (All-contains (Contains (x ∷ xs)) (y ∷ ys) y q (contains_here y ys))))
        (contains_cases y ys x (All-contains (Contains (y ∷ ys)) (x ∷ xs) x p (contains_here x xs)))

    tails : AreAmong xs ys
    tails = all_from (Contains ys) xs (λ z m. ⊎_elim
        (λ (e : y ≡ z).
        let c = (All-contains (IsBefore x) xs z first m).0 in
        let d = ap (λ (r : Record). r.place) (heads ∙ e) in
        absurd (omega (arith, c, d)))
        (λ (k : Contains ys z). k)
        (contains_cases y ys z (All-contains (Contains (y ∷ ys)) (x ∷ xs) z p (contains_there x xs z m))))

    tails' : AreAmong ys xs
    tails' = all_from (Contains xs) ys (λ z m. ⊎_elim
        (λ (e : x ≡ z).
        let c = (All-contains (IsBefore y) ys z first' m).0 in
        let d = ap (λ (r : Record). r.place) (sym heads ∙ e) in
        absurd (omega (arith, c, d)))
        (λ (k : Contains xs z). k)
        (contains_cases x xs z (All-contains (Contains (x ∷ xs)) (y ∷ ys) z q (contains_there y ys z m))))

-- a part of both, by one test
same_part : (p : Record → Bool) (all held : List Record) → AreInOrder all → AreInOrder held → AreAmong held all → AreAmong (filter p all) held → filter p held ≡ filter p all
same_part p all held order order' own part = same_in_order (filter p held) (filter p all) (filter_in_order p held order') (filter_in_order p all order)
    (all_from (Contains (filter p all)) (filter p held) (λ r k. contains_filter p all r (All-contains (Contains all) held r own (filter_was p held r k)) (filter_test p held r k)))
    (all_from (Contains (filter p held)) (filter p all) (λ r k. contains_filter p held r (All-contains (Contains held) (filter p all) r part k) (filter_test p all r k)))

-- The window of what is held is exactly the window of all.
pub same_window : (seconds : ℕ) (all held : List Record) → AreInOrder all → AreInOrder held → Holds seconds all held → window seconds held ≡ window seconds all
same_window seconds all held order order' h = ap (λ (o : Option Record). window_before o seconds held) h.newest ∙ go (last all) refl
  where
    go : (o : Option Record) → last all ≡ o → window_before (last all) seconds held ≡ window_before (last all) seconds all
    go None e = subst (λ (o : Option Record). window_before o seconds held ≡ window_before o seconds all) (sym e) refl
    go (Some newest) e =
        let now : AreAmong (window_before (Some newest) seconds all) held = subst (λ (o : Option Record). AreAmong (window_before o seconds all) held) e h.recent in
        subst (λ (o : Option Record). window_before o seconds held ≡ window_before o seconds all) (sym e)
        (same_part (λ (r : Record). in_window (second r.tick) (second newest.tick) seconds) all held order order' h.own now)

-- The places of an incident in what is held are exactly those of all.
pub same_places : (all held : List Record) (a b : ℕ) → AreInOrder all → AreInOrder held → AreAmong held all → HoldsPlaces all held a b → at_places a b held ≡ at_places a b all
same_places all held a b order order' own h = same_part (within a b) all held order order' own h

first_of : {X : Type 0} (xs : List X) (f : X → ℕ) (n : ℕ) → option_map f (slice_get xs 0) ≡ Some n → (x : X) × Contains xs x × (f x ≡ n)
first_of [] f n e = absurd (no e)
  where
    no : None ≡ Some n → ⊥
    no e = cc
first_of (x ∷ xs) f n e = (x, contains_here x xs, same e)
  where
    same : Some (f x) ≡ Some n → f x ≡ n
    same e = cc

-- An incident of no more seconds than the window is held from its save on.
pub save_keeps_places : (seconds window_seconds : ℕ) (all held : List Record) (a b : ℕ) → seconds ≤ window_seconds → AreInOrder all → HasWindowPlaces seconds all a b
    → Holds window_seconds all held → HoldsPlaces all held a b
save_keeps_places seconds window_seconds all held a b shorter order spans h = all_from (Contains held) (at_places a b all) (λ r k.
    let f : (x : Record) × Contains (window seconds all) x × (x.place ≡ a) = first_of (window seconds all) (λ (r : Record). r.place) a spans.first in
    let w : IsRecent seconds all f.0 = recent seconds all f.0 f.1 in
    let here : Contains all r = filter_was (within a b) all r k in
    let above : a ≤ r.place = leb-true a r.place (and_parts _ _ (filter_test (within a b) all r k)).0 in
    let reached : f.0.place ≤ r.place = let e = f.2 in omega (arith, e, above) in
    let rises : f.0.tick ≤ r.tick = by_place all f.0 r order w.there here reached in
    let close : second w.newest.tick < second f.0.tick + seconds = w.close in
    All-contains (Contains held) (window window_seconds all) r h.recent
    (in_the_window window_seconds all r (record { newest = w.newest; ends = w.ends; there = here; close = omega (arith, rises, close, shorter) })))

-- What order a batch and a victim leave.
pub append_in_order : (xs ys : List Record) → AreInOrder xs → AreInOrder ys → ((x y : Record) → Contains xs x → Contains ys y → IsBefore x y) → AreInOrder (xs ++ ys)
append_in_order [] ys h k across = k
append_in_order (x ∷ xs) ys (first, more) k across = (
  All-append (IsBefore x) xs ys first (all_from (IsBefore x) ys (λ y m. across x y (contains_here x xs) m)),
  append_in_order xs ys more k (λ z y m n. across z y (contains_there x xs z m) n),
)

pub parts_in_order : (xs ys : List Record) → AreInOrder (xs ++ ys) → AreInOrder xs × AreInOrder ys × ((x y : Record) → Contains xs x → Contains ys y → IsBefore x y)
parts_in_order [] ys h = (tt, h, λ x y m n. absurd (none_contained x m))
parts_in_order (x ∷ xs) ys (first, more) =
    let p = parts_in_order xs ys more in (
      (all_from (IsBefore x) xs (λ z m. All-contains (IsBefore x) (xs ++ ys) z first (Contains-append_left xs ys z m)), p.0),
      p.1,
      λ z y m n. ⊎_elim
          (λ (e : x ≡ z). subst (λ (r : Record). IsBefore r y) e (All-contains (IsBefore x) (xs ++ ys) y first (Contains-append_right xs ys y n)))
          (λ (k : Contains xs z). p.2 z y k n)
          (contains_cases x xs z m),
    )

-- what is held stays in order, as all with the batch is
pub append_held_in_order : (all held batch : List Record) → AreInOrder (all ++ batch) → AreInOrder held → AreAmong held all → AreInOrder (held ++ batch)
append_held_in_order all held batch order order' own =
    let p = parts_in_order all batch order in
    append_in_order held batch order' p.1 (λ x y m n. p.2 x y (All-contains (Contains all) held x own m) n)

pub remove_held_in_order : (before victim rest : List Record) → AreInOrder (before ++ (victim ++ rest)) → AreInOrder (before ++ rest)
remove_held_in_order before victim rest order =
    let p = parts_in_order before (victim ++ rest) order in
    append_in_order before rest p.0 (parts_in_order victim rest p.1).1 (λ x y m n. p.2 x y m (Contains-append_right victim rest y n))

-- The last record is no earlier than any that was there.
pub no_earlier : (all batch : List Record) → AreInOrder (all ++ batch) → IsNoEarlier (last all) (last (all ++ batch))
no_earlier all batch order = go (last all) (last (all ++ batch)) refl refl
  where
    one : (o n : Option Record) (old new : Record) → n ≡ o → o ≡ Some old → n ≡ Some new → old ≡ new
    one o n old new p q r = cc

    is : (x y : Record) → Some x ≡ Some y → x ≡ y
    is x y e = cc

    pair : (batch : List Record) (old new : Record) → AreInOrder (all ++ batch) → last all ≡ Some old → last (all ++ batch) ≡ Some new → old.tick ≤ new.tick
    pair [] old new order e f = let d = ap (λ (r : Record). r.tick) (one (last all) (last (all ++ [])) old new (ap last (append-nil all)) e f) in omega (arith, d)
    pair (y ∷ ys) old new order e f =
        let n : last_after y ys ≡ new = is (last_after y ys) new (sym (last_behind all y ys) ∙ f) in
        ((parts_in_order all (y ∷ ys) order).2 old new (last_contained all old e) (last_contained (y ∷ ys) new (ap Some n))).1

    go : (o n : Option Record) → last all ≡ o → last (all ++ batch) ≡ n → IsNoEarlier o n
    go None n e f = tt
    go (Some old) None e f = tt
    go (Some old) (Some new) e f = pair batch old new order e f

-- Where places run on, each is one of the run.
pub places_run : (place : ℕ) (rs : List Record) (r : Record) → RunOn place rs → Contains rs r → (place ≤ r.place) × (r.place < place + length rs)
places_run place [] r h m = absurd (none_contained r m)
places_run place (x ∷ xs) r (e, more) m =
    ⊎_elim
    (λ (k : x ≡ r). let d = ap (λ (r : Record). r.place) k in (omega (arith, d, e), omega (arith, d, e)))
    (λ (k : Contains xs r). let c = places_run (suc place) xs r more k in let a = c.0 in let b = c.1 in (omega (arith, a), omega (arith, b)))
    (contains_cases x xs r m)

-- Where places run on and ticks do not fall, none is below the first of them.
pub above : (place from : ℕ) (rs : List Record) → RunOn place rs → NeverFalls from rs → All (λ r. (place ≤ r.place) × (from ≤ r.tick)) rs
above place from [] h k = All-nil (λ r. (place ≤ r.place) × (from ≤ r.tick))
above place from (r ∷ rs) (e, more) (rises, later) = All-cons (λ r. (place ≤ r.place) × (from ≤ r.tick)) r rs (omega (arith, e), rises)
    (all_from (λ r. (place ≤ r.place) × (from ≤ r.tick)) rs (λ x m.
    let c = All-contains (λ x. (suc place ≤ x.place) × (r.tick ≤ x.tick)) rs x (above (suc place) r.tick rs more later) m in
    let a = c.0 in let b = c.1 in (omega (arith, a), omega (arith, b, rises))))

-- Places that run on and ticks that do not fall put records in order.
pub run_on_in_order : (place from : ℕ) (rs : List Record) → RunOn place rs → NeverFalls from rs → AreInOrder rs
run_on_in_order place from [] h k = tt
run_on_in_order place from (r ∷ rs) (e, more) (rises, later) = (
  all_from (IsBefore r) rs (λ x m.
      let c = All-contains (λ x. (suc place ≤ x.place) × (r.tick ≤ x.tick)) rs x (above (suc place) r.tick rs more later) m in
      let a = c.0 in (omega (arith, a, e), c.1)),
  run_on_in_order (suc place) r.tick rs more later,
)

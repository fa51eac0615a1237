-- What a query selects at places: as parts of it, of more records, of those that stand on a medium, and as the whole of a window.
use Rattle.std.proofs.Common.{◌≡◌, ◌<◌, ◌≤◌, ◌⊎◌, inl, inr, ⊎_elim, ◌++◌, ◌&&◌, cond, ℕ, suc, Bool, true, false, nat_le, List, [], ◌∷◌, filter, slice_get, Contains, option_map, Option, Some, refl, sym, ap, ◌∙◌, subst, arith, append-nil, ◌+◌, min}
use Rattle.std.proofs.lemmas.Bool.{and_parts, and_from, cases_lt, le-leb, leb-true, lt-ltb, ltb-true}
use Rattle.std.proofs.lemmas.List.Elements.{All-contains}
use Rattle.std.proofs.lemmas.Option.{same_Some}
use Rattle.vdr_terms.specs.Order.{AreInOrder}
use Rattle.vdr_terms.specs.Queries.{Query, in_span, matches}
use Rattle.vdr_terms.specs.Queries.Span.{Places, Window}
use Rattle.vdr_terms.specs.Records.{Record, last, second}
use Rattle.vdr_terms.specs.Windows.{in_window, window, window_before}
use Rattle.vdr_durability.specs.Playback.{found}
use Rattle.vdr_durability.specs.Retention.{AreAmong, HoldsPlaces, at_places, within}
use Rattle.vdr_durability.proofs.Found.{none_passes, parts_found}
use Rattle.vdr_durability.proofs.Lists.{all_from, contains_cases, contains_here, contains_there, filter_test, filter_was, none_contained}
use Rattle.vdr_durability.proofs.Ordered.{by_place, filter_in_order, same_places}
use Rattle.vdr_durability.proofs.Retained.{IsRecent, in_the_window, recent}
use Rattle.vdr_directory.specs.Lookup.{HoldAll}
use Rattle.vdr_directory.specs.Order.{AreInOrder as AreInPlaceOrder}
use Rattle.vdr_directory.specs.Sequence.{Placed, all_records}
use Rattle.vdr_ring.proofs.Medium.{in_order_records}
use Rattle.vdr_ring.proofs.Pinned.{place_recorded}
use Rattle.vdr_vault.specs.Saves.{first_in_window}
use Rattle.vdr_vault.proofs.SavePlaces.{IsFirst, before_last, first_is}

-- Two tests that agree on all of them.
filter_same : {X : Type 0} (p q : X → Bool) (xs : List X) → ((x : X) → Contains xs x → p x ≡ q x) → filter p xs ≡ filter q xs
filter_same p q [] h = refl
filter_same p q (x ∷ xs) h =
    let here = h x (contains_here x xs) in
    let more = filter_same p q xs (λ y m. h y (contains_there x xs y m)) in
    ap (λ (t : Bool). cond t (x ∷ filter p xs) (filter p xs)) here ∙ ap (λ ys. cond (q x) (x ∷ ys) ys) more

-- Two tests of which each implies the other.
same_test : (t u : Bool) → (t ≡ true → u ≡ true) → (u ≡ true → t ≡ true) → t ≡ u
same_test true u there back = sym (there refl)
same_test false false there back = refl
same_test false true there back = back refl

abbrev selects : Query → (a b : ℕ) → Record → Bool
selects query a b r = in_span (Places a b) r && matches query r

-- A record is selected at places where its own is among them and the query matches.
selected_at : (query : Query) (a b : ℕ) (r : Record) → a ≤ r.place → r.place ≤ b → matches query r ≡ true → selects query a b r ≡ true
selected_at query a b r low high m = and_from _ _ (and_from (nat_le a r.place) (nat_le r.place b) (le-leb a r.place low) (le-leb r.place b high)) m

record IsAt (query : Query) (a b : ℕ) (r : Record) : Type 0 where
  low : a ≤ r.place
  high : r.place ≤ b
  match : matches query r ≡ true

is_at : (query : Query) (a b : ℕ) (r : Record) → selects query a b r ≡ true → IsAt query a b r
is_at query a b r h =
    let p = and_parts (in_span (Places a b) r) (matches query r) h in
    let q = and_parts (nat_le a r.place) (nat_le r.place b) p.0 in
    record { low = leb-true a r.place q.0; high = leb-true r.place b q.1; match = p.1 }

never : (t : Bool) → (t ≡ true → ⊥) → t ≡ false
never true h = absurd (h refl)
never false h = refl

joined : {X : Type 0} (t : Bool) (x : X) (whole front rest : List X) → whole ≡ front ++ rest → cond t (x ∷ whole) whole ≡ cond t (x ∷ front) front ++ rest
joined true x whole front rest h = ap (λ ys. x ∷ ys) h
joined false x whole front rest h = h

-- Up to a place and behind it.
module _ (query : Query) (a b e : ℕ) (up : e ≤ b) (low : a ≤ suc e) where
  pub places_split : (xs : List Record) → AreInOrder xs → found query (Some (Places a b)) xs ≡ found query (Some (Places a e)) xs ++ found query (Some (Places (suc e) b)) xs
  places_split [] order = refl
  places_split (x ∷ xs) (first, more) = ⊎_elim here (behind (places_split xs more)) (cases_lt e x.place)
    where
      behind : filter (selects query a b) xs ≡ filter (selects query a e) xs ++ filter (selects query (suc e) b) xs → x.place ≤ e
          → filter (selects query a b) (x ∷ xs) ≡ filter (selects query a e) (x ∷ xs) ++ filter (selects query (suc e) b) (x ∷ xs)
      behind rest le =
          let same : selects query a b x ≡ selects query a e x =
          same_test (selects query a b x) (selects query a e x) (λ h. let p = is_at query a b x h in selected_at query a e x p.low le p.match)
          (λ h. let p = is_at query a e x h in selected_at query a b x p.low (omega (arith, le, up)) p.match) in
          let off : selects query (suc e) b x ≡ false = never _ (λ h. let p = (is_at query (suc e) b x h).low in omega (arith, p, le)) in
          ap (λ (t : Bool). cond t (x ∷ filter (selects query a b) xs) (filter (selects query a b) xs)) same
          ∙ joined (selects query a e x) x (filter (selects query a b) xs) (filter (selects query a e) xs) (filter (selects query (suc e) b) xs) rest
          ∙ ap (λ (t : Bool). filter (selects query a e) (x ∷ xs) ++ cond t (x ∷ filter (selects query (suc e) b) xs) (filter (selects query (suc e) b) xs)) (sym off)

      -- all are behind it
      far : e < x.place → (r : Record) → Contains (x ∷ xs) r → e < r.place
      far less r m = go (contains_cases x xs r m)
        where
          go : (x ≡ r) ⊎ Contains xs r → e < r.place
          go (inl same) = subst (λ (y : Record). e < y.place) same less
          go (inr k) = let l = (All-contains (λ later. (x.place < later.place) × (x.tick ≤ later.tick)) xs r first k).0 in omega (arith, l, less)

      here : e < x.place → filter (selects query a b) (x ∷ xs) ≡ filter (selects query a e) (x ∷ xs) ++ filter (selects query (suc e) b) (x ∷ xs)
      here less =
          let none : filter (selects query a e) (x ∷ xs) ≡ [] =
          none_passes (selects query a e) (x ∷ xs) (λ r m. never _ (λ h. let p = (is_at query a e r h).high in let f = far less r m in omega (arith, p, f))) in
          let same : filter (selects query a b) (x ∷ xs) ≡ filter (selects query (suc e) b) (x ∷ xs) =
          filter_same (selects query a b) (selects query (suc e) b) (x ∷ xs) (λ r m. let f = far less r m in
          same_test (selects query a b r) (selects query (suc e) b r) (λ h. let p = is_at query a b r h in selected_at query (suc e) b r f p.high p.match)
          (λ h. let p = is_at query (suc e) b r h in let q = p.low in selected_at query a b r (omega (arith, q, low)) p.high p.match)) in
          same ∙ ap (λ (ys : List Record). ys ++ filter (selects query (suc e) b) (x ∷ xs)) (sym none)

-- Records that are all behind these places change nothing.
pub places_before : (query : Query) (a b : ℕ) (xs ys : List Record) → ((r : Record) → Contains ys r → b < r.place) → found query (Some (Places a b)) (xs ++ ys) ≡ found query (Some (Places a b)) xs
places_before query a b xs ys behind =
    parts_found query (Places a b) xs ys
    ∙ ap (λ (zs : List Record). found query (Some (Places a b)) xs ++ zs)
    (none_passes (selects query a b) ys (λ r m. never _ (λ h. let p = (is_at query a b r h).high in let f = behind r m in omega (arith, p, f))))
    ∙ append-nil (found query (Some (Places a b)) xs)

-- Nothing is selected where the places end before they begin.
pub none_at : (query : Query) (a b : ℕ) (xs : List Record) → b < a → found query (Some (Places a b)) xs ≡ []
none_at query a b xs less = none_passes (selects query a b) xs (λ r m. never _ (λ h. let p = is_at query a b r h in let l = p.low in let g = p.high in omega (arith, l, g, less)))

-- What is selected at places, by two tests one after the other.
pub found_twice : (query : Query) (a b : ℕ) (xs : List Record) → found query (Some (Places a b)) xs ≡ filter (matches query) (at_places a b xs)
found_twice query a b [] = refl
found_twice query a b (x ∷ xs) = go (in_span (Places a b) x) (found_twice query a b xs)
  where
    go : (t : Bool) → found query (Some (Places a b)) xs ≡ filter (matches query) (at_places a b xs)
        → cond (t && matches query x) (x ∷ found query (Some (Places a b)) xs) (found query (Some (Places a b)) xs) ≡ filter (matches query) (cond t (x ∷ at_places a b xs) (at_places a b xs))
    go true same = ap (λ ys. cond (matches query x) (x ∷ ys) ys) same
    go false same = same

-- In order no two have one place.
one_of_place : (xs : List Record) (x y : Record) → AreInOrder xs → Contains xs x → Contains xs y → x.place ≡ y.place → x ≡ y
one_of_place [] x y order m n same = absurd (none_contained x m)
one_of_place (z ∷ zs) x y (first, more) m n same =
    ⊎_elim
    (λ (a : z ≡ x). ⊎_elim
    (λ (b : z ≡ y). sym a ∙ b)
    (λ (k : Contains zs y). let l = (All-contains (λ later. (z.place < later.place) × (z.tick ≤ later.tick)) zs y first k).0 in let p = ap (λ (r : Record). r.place) a in absurd (omega (arith, l, p, same)))
    (contains_cases z zs y n))
    (λ (k : Contains zs x). ⊎_elim
    (λ (b : z ≡ y). let l = (All-contains (λ later. (z.place < later.place) × (z.tick ≤ later.tick)) zs x first k).0 in let p = ap (λ (r : Record). r.place) b in absurd (omega (arith, l, p, same)))
    (λ (l : Contains zs y). one_of_place zs x y more k l same)
    (contains_cases z zs y n))
    (contains_cases z zs x m)

-- A medium on which all these places stand gives what is selected of all.
pub places_held : (query : Query) (a b : ℕ) (all : List Record) (placed : List Placed) → AreInOrder all → AreInPlaceOrder placed → AreAmong (all_records placed) all → HoldAll a b placed
    → found query (Some (Places a b)) (all_records placed) ≡ found query (Some (Places a b)) all
places_held query a b all placed order in_place own holds =
    found_twice query a b (all_records placed)
    ∙ ap (filter (matches query)) (same_places all (all_records placed) a b order (in_order_records placed in_place) own there)
    ∙ sym (found_twice query a b all)
  where
    there : HoldsPlaces all (all_records placed) a b
    there = all_from (Contains (all_records placed)) (at_places a b all) (λ r m.
        let in_all = filter_was (within a b) all r m in
        let p = and_parts _ _ (filter_test (within a b) all r m) in
        let x = place_recorded r.place placed in_place (holds r.place (leb-true a r.place p.0) (leb-true r.place b p.1)) in
        let same : x.0 ≡ r = one_of_place all x.0 r order (All-contains (Contains all) (all_records placed) x.0 own x.1) in_all x.2 in
        subst (Contains (all_records placed)) same x.1)

-- The records of a window are those from the place of its first one on.
module _ (query : Query) (seconds a : ℕ) (newest : Record) (xs : List Record) (order : AreInOrder xs) (ends : last xs ≡ Some newest)
    (is : first_in_window seconds xs ≡ Some a) where
  pub window_places : found query (Some (Window (second newest.tick) seconds)) xs ≡ found query (Some (Places a newest.place)) xs
  window_places = filter_same (λ r. in_window (second r.tick) (second newest.tick) seconds && matches query r) (selects query a newest.place) xs (λ r m.
      ap (λ (t : Bool). t && matches query r) (same_test (in_window (second r.tick) (second newest.tick) seconds) (in_span (Places a newest.place) r) (there r m) (back r m)))
    where
      first : IsFirst seconds xs a
      first = first_is seconds a xs is

      windowed : AreInOrder (window seconds xs)
      windowed = subst (λ (o : Option Record). AreInOrder (window_before o seconds xs)) (sym ends)
          (filter_in_order (λ r. in_window (second r.tick) (second newest.tick) seconds) xs order)

      -- none of them has a lower place than the first one
      least : (w : List Record) → AreInOrder w → option_map (λ r. r.place) (slice_get w 0) ≡ Some a → (r : Record) → Contains w r → a ≤ r.place
      least [] w_order w_is r m = absurd (none_contained r m)
      least (x ∷ w) w_order w_is r m =
          let at : x.place ≡ a = same_Some x.place a w_is in
          ⊎_elim
          (λ (same : x ≡ r). let p = ap (λ (y : Record). y.place) same in omega (arith, p, at))
          (λ (k : Contains w r). let l = (All-contains (λ later. (x.place < later.place) × (x.tick ≤ later.tick)) w r w_order.0 k).0 in omega (arith, l, at))
          (contains_cases x w r m)

      no_sooner : (r : Record) → Contains (window seconds xs) r → a ≤ r.place
      no_sooner r m = least (window seconds xs) windowed is r m

      there : (r : Record) → Contains xs r → in_window (second r.tick) (second newest.tick) seconds ≡ true → in_span (Places a newest.place) r ≡ true
      there r m h =
          let recent_r : IsRecent seconds xs r = record { newest = newest; ends = ends; there = m; close = ltb-true (second newest.tick) (second r.tick + seconds) h } in
          let low : a ≤ r.place = no_sooner r (in_the_window seconds xs r recent_r) in
          let high = (before_last xs newest r order ends m).0 in
          and_from _ _ (le-leb a r.place low) (le-leb r.place newest.place high)

      back : (r : Record) → Contains xs r → in_span (Places a newest.place) r ≡ true → in_window (second r.tick) (second newest.tick) seconds ≡ true
      back r m h =
          let p = and_parts (nat_le a r.place) (nat_le r.place newest.place) h in
          let f = recent seconds xs first.r first.there in
          let above = leb-true a r.place p.0 in
          let at = first.place in
          let rises : first.r.tick ≤ r.tick = by_place xs first.r r order f.there m (omega (arith, above, at)) in
          let same : f.newest ≡ newest = same_Some f.newest newest (sym f.ends ∙ ends) in
          let close : second newest.tick < second first.r.tick + seconds = subst (λ (x : Record). second x.tick < second first.r.tick + seconds) same f.close in
          lt-ltb (second newest.tick) (second r.tick + seconds) (omega (arith, rises, close))

-- No place is greater than that of the last record.
pub places_to_last : (query : Query) (a b : ℕ) (newest : Record) (xs : List Record) → AreInOrder xs → last xs ≡ Some newest
    → found query (Some (Places a b)) xs ≡ found query (Some (Places a (min b newest.place))) xs
places_to_last query a b newest xs order ends = filter_same (selects query a b) (selects query a (min b newest.place)) xs (λ r m.
    let high = (before_last xs newest r order ends m).0 in
    same_test (selects query a b r) (selects query a (min b newest.place) r)
    (λ h. let p = is_at query a b r h in let q = p.high in selected_at query a (min b newest.place) r p.low (omega (arith, q, high)) p.match)
    (λ h. let p = is_at query a (min b newest.place) r h in let q = p.high in selected_at query a b r p.low (omega (arith, q)) p.match))

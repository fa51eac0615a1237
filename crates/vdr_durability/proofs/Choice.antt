-- A segment may go exactly where its extent and the second of the medium's last record show it.
use Rattle.std.proofs.Common.{ℕ, suc, ◌+◌, ◌<◌, ◌≤◌, List, [], ◌∷◌, length, Bool, true, false, not, ◌||◌, nat_le, nat_lt, IsTrue, Contains, Some, ◌≡◌, ◌⊎◌, ◌↔◌, inl, inr, ⊎_elim, refl, sym, ap, ◌∙◌, arith}
use Rattle.std.specs.List.{list_all}
use Rattle.std.proofs.lemmas.Bool.{cases_Bool, cases_lt, and_from, and_parts, or_cases, or_left, or_right, le-leb, leb-true, lt-ltb, ltb-true, true≢false}
use Rattle.std.proofs.lemmas.List.Elements.{All-contains, All-nil}
use Rattle.vdr_terms.specs.Records.{Record, second, last_after, last}
use Rattle.vdr_terms.specs.Windows.{window}
use Rattle.vdr_terms.specs.Order.{RunOn, NeverFalls, AreInOrder}
use Rattle.vdr_durability.specs.Layout.{Batches, segment_records}
use Rattle.vdr_durability.specs.Retention.{AreAmong, AreOutside, HaveNoPlace, Pin, within}
use Rattle.vdr_durability.specs.Victims.{Extent, IsExtent, IsLastSecond, MayGo, is_apart, may_go_by_numbers}
use Rattle.vdr_durability.proofs.Lists.{contains_here, contains_there, contains_cases, all_from, last_contained, none_contained}
use Rattle.vdr_durability.proofs.Ordered.{latest, places_run, run_on_in_order}
use Rattle.vdr_durability.proofs.Retained.{in_the_window, outside_by_test}

-- a record at each place that runs on
record_at : (place : ℕ) (rs : List Record) (p : ℕ) → RunOn place rs → place ≤ p → p < place + length rs → (r : Record) × Contains rs r × (r.place ≡ p)
record_at place [] p h a b = absurd (omega (arith, a, b))
record_at place (x ∷ xs) p (e, more) a b =
    ⊎_elim
    (λ (l : place < p). let k = record_at (suc place) xs p more (omega (arith, l)) (omega (arith, b)) in (k.0, contains_there x xs k.0 k.1, k.2))
    (λ (g : p ≤ place). (x, contains_here x xs, omega (arith, e, a, g)))
    (cases_lt place p)

all_pass : {X : Type 0} (p : X → Bool) (xs : List X) → ((x : X) → Contains xs x → p x ≡ true) → list_all p xs ≡ true
all_pass p [] h = refl
all_pass p (x ∷ xs) h = and_from (p x) (list_all p xs) (h x (contains_here x xs)) (all_pass p xs (λ y m. h y (contains_there x xs y m)))

passed : {X : Type 0} (p : X → Bool) (xs : List X) (x : X) → list_all p xs ≡ true → Contains xs x → p x ≡ true
passed p [] x e m = absurd (none_contained x m)
passed p (y ∷ ys) x e m =
    let k = and_parts (p y) (list_all p ys) e in
    ⊎_elim
    (λ (q : y ≡ x). ap p (sym q) ∙ k.0)
    (λ (n : Contains ys x). passed p ys x k.1 n)
    (contains_cases y ys x m)

-- the pin has no place, or all its places are before these numbers or behind them
abbrev IsApart : ℕ → ℕ → Pin → Type 0
IsApart first next pin = (pin.b < pin.a) ⊎ ((pin.b < first) ⊎ (next ≤ pin.a))

apart_by_test : (first next : ℕ) (pin : Pin) → (nat_lt pin.b pin.a || (nat_lt pin.b first || nat_le next pin.a)) ≡ true → IsApart first next pin
apart_by_test first next pin e =
    ⊎_elim
    (λ (a : nat_lt pin.b pin.a ≡ true). inl (ltb-true pin.b pin.a a))
    (λ (a : (nat_lt pin.b first || nat_le next pin.a) ≡ true). inr (⊎_elim
    (λ (b : nat_lt pin.b first ≡ true). inl (ltb-true pin.b first b))
    (λ (b : nat_le next pin.a ≡ true). inr (leb-true next pin.a b))
    (or_cases (nat_lt pin.b first) (nat_le next pin.a) a)))
    (or_cases (nat_lt pin.b pin.a) (nat_lt pin.b first || nat_le next pin.a) e)

test_by_apart : (first next : ℕ) (pin : Pin) → IsApart first next pin → (nat_lt pin.b pin.a || (nat_lt pin.b first || nat_le next pin.a)) ≡ true
test_by_apart first next pin (inl a) = or_left (nat_lt pin.b pin.a) (nat_lt pin.b first || nat_le next pin.a) (lt-ltb pin.b pin.a a)
test_by_apart first next pin (inr (inl a)) = or_right (nat_lt pin.b pin.a) (nat_lt pin.b first || nat_le next pin.a) (or_left (nat_lt pin.b first) (nat_le next pin.a) (lt-ltb pin.b first a))
test_by_apart first next pin (inr (inr a)) = or_right (nat_lt pin.b pin.a) (nat_lt pin.b first || nat_le next pin.a) (or_right (nat_lt pin.b first) (nat_le next pin.a) (le-leb next pin.a a))

-- places that run on, and a pin
places_apart : (first next : ℕ) (rs : List Record) (pin : Pin) → RunOn first rs → next ≡ first + length rs → IsApart first next pin → HaveNoPlace pin.a pin.b rs
places_apart first next rs pin run ends apart = all_from (λ r. within pin.a pin.b r ≡ false) rs (λ r m. none r (places_run first rs r run m) apart (cases_Bool (within pin.a pin.b r)))
  where
    none : (r : Record) → (first ≤ r.place) × (r.place < first + length rs) → IsApart first next pin → (within pin.a pin.b r ≡ true) ⊎ (within pin.a pin.b r ≡ false) → within pin.a pin.b r ≡ false
    none r (p, q) apart (inr e) = e
    none r (p, q) apart (inl e) =
        let k = and_parts (nat_le pin.a r.place) (nat_le r.place pin.b) e in
        let c = leb-true pin.a r.place k.0 in
        let d = leb-true r.place pin.b k.1 in
        absurd (clash r p q apart c d)
      where
        clash : (r : Record) → first ≤ r.place → r.place < first + length rs → IsApart first next pin → pin.a ≤ r.place → r.place ≤ pin.b → ⊥
        clash r p q (inl a) c d = omega (arith, a, c, d)
        clash r p q (inr (inl a)) c d = omega (arith, p, a, d)
        clash r p q (inr (inr a)) c d = omega (arith, q, ends, a, c)

apart_places : (first next : ℕ) (rs : List Record) (pin : Pin) → 0 < length rs → RunOn first rs → next ≡ first + length rs → HaveNoPlace pin.a pin.b rs → IsApart first next pin
apart_places first next rs pin some run ends free =
    ⊎_elim
    (λ (none : pin.b < pin.a). inl none)
    (λ (legal : pin.a ≤ pin.b). inr (⊎_elim
    (λ (before : pin.b < first). inl before)
    (λ (reaches : first ≤ pin.b). inr (⊎_elim
    (λ (meets : pin.a < next). absurd (clash legal reaches meets))
    (λ (behind : next ≤ pin.a). behind)
    (cases_lt pin.a next)))
    (cases_lt pin.b first)))
    (cases_lt pin.b pin.a)
  where
    here : (p : ℕ) → first ≤ p → p < first + length rs → pin.a ≤ p → p ≤ pin.b → ⊥
    here p a b c d =
        let r = record_at first rs p run a b in
        let e = r.2 in
        true≢false (sym (and_from (nat_le pin.a r.0.place) (nat_le r.0.place pin.b) (le-leb pin.a r.0.place (omega (arith, c, e))) (le-leb r.0.place pin.b (omega (arith, d, e))))
        ∙ All-contains (λ r. within pin.a pin.b r ≡ false) rs r.0 free r.1)

    clash : pin.a ≤ pin.b → first ≤ pin.b → pin.a < next → ⊥
    clash legal reaches meets =
        ⊎_elim
        (λ (l : first < pin.a). here pin.a (omega (arith, l)) (omega (arith, meets, ends)) (omega arith) legal)
        (λ (g : pin.a ≤ first). here first (omega arith) (omega (arith, some)) g reaches)
        (cases_lt first pin.a)

-- of records in order the last one decides
far_outside : (seconds : ℕ) (held : List Record) (newest x : Record) (xs : List Record) → last held ≡ Some newest → AreInOrder (x ∷ xs) → second (last_after x xs).tick + seconds ≤ second newest.tick → AreOutside seconds held (x ∷ xs)
far_outside seconds held newest x xs ends order far =
    all_from (λ r. Contains (window seconds held) r → ⊥) (x ∷ xs) (λ r m. let d = latest x xs r order m in outside_by_test seconds held newest r ends (omega (arith, d, far)))

outside_far : (seconds : ℕ) (held : List Record) (newest x : Record) (xs : List Record) → last held ≡ Some newest → AreAmong (x ∷ xs) held → AreOutside seconds held (x ∷ xs) → second (last_after x xs).tick + seconds ≤ second newest.tick
outside_far seconds held newest x xs ends own outside =
    ⊎_elim
    (λ (close : second newest.tick < second (last_after x xs).tick + seconds).
    let z : Record = last_after x xs in
    let here : Contains (x ∷ xs) z = last_contained (x ∷ xs) z refl in
    absurd (All-contains (λ r. Contains (window seconds held) r → ⊥) (x ∷ xs) z outside here
    (in_the_window seconds held z (record { newest = newest; ends = ends; there = All-contains (Contains held) (x ∷ xs) z own here; close = close }))))
    (λ (far : second (last_after x xs).tick + seconds ≤ second newest.tick). far)
    (cases_lt (second newest.tick) (second (last_after x xs).tick + seconds))

-- The test by numbers is the definition, both ways.
module _ (seconds : ℕ) (pins : List Pin) (medium_second : ℕ) (extent : Extent) where
  -- what a segment's records and the medium's are known by
  numbers_decide : (held rs : List Record) → IsExtent extent rs → NeverFalls 0 rs → AreAmong rs held → IsLastSecond medium_second held
      → may_go_by_numbers seconds pins medium_second extent ≡ true → AreOutside seconds held rs × ((pin : Pin) → Contains pins pin → HaveNoPlace pin.a pin.b rs)
  numbers_decide held [] h falls own lasts e = (All-nil (λ r. Contains (window seconds held) r → ⊥), λ pin m. All-nil (λ r. within pin.a pin.b r ≡ false))
  numbers_decide [] (x ∷ xs) h falls own lasts e = absurd (none_contained x (All-contains (Contains []) (x ∷ xs) x own (contains_here x xs)))
  numbers_decide (y ∷ ys) (x ∷ xs) h falls own lasts e =
      let k = and_parts (not extent.has_records || nat_le (extent.last_second + seconds) medium_second) (list_all (is_apart extent) pins) e in
      let far = leb-true (extent.last_second + seconds) medium_second (left (nat_le (extent.last_second + seconds) medium_second) k.0) in
      let a : extent.last_second ≡ second (last_after x xs).tick = h.seconds (last_after x xs) refl in
      let b : medium_second ≡ second (last_after y ys).tick = lasts (last_after y ys) refl in (
        far_outside seconds (y ∷ ys) (last_after y ys) x xs refl (run_on_in_order extent.first 0 (x ∷ xs) h.places falls) (omega (arith, a, b, far)),
        λ pin m. places_apart extent.first extent.next (x ∷ xs) pin h.places h.ends
            (apart_by_test extent.first extent.next pin (left (nat_lt pin.b pin.a || (nat_lt pin.b extent.first || nat_le extent.next pin.a)) (passed (is_apart extent) pins pin k.1 m))),
      )
    where
      has : extent.has_records ≡ true
      has = h.some ∙ lt-ltb 0 (length (x ∷ xs)) (omega arith)

      left : (t : Bool) → (not extent.has_records || t) ≡ true → t ≡ true
      left t q = ap (λ (u : Bool). not u || t) (sym has) ∙ q

  definition_decides : (held rs : List Record) → IsExtent extent rs → NeverFalls 0 rs → AreAmong rs held → IsLastSecond medium_second held
      → AreOutside seconds held rs → ((pin : Pin) → Contains pins pin → HaveNoPlace pin.a pin.b rs) → may_go_by_numbers seconds pins medium_second extent ≡ true
  definition_decides held [] h falls own lasts old free =
      and_from (not extent.has_records || nat_le (extent.last_second + seconds) medium_second) (list_all (is_apart extent) pins)
      (or_left (not extent.has_records) (nat_le (extent.last_second + seconds) medium_second) (ap not h.some))
      (all_pass (is_apart extent) pins (λ pin m. or_left (not extent.has_records) (nat_lt pin.b pin.a || (nat_lt pin.b extent.first || nat_le extent.next pin.a)) (ap not h.some)))
  definition_decides [] (x ∷ xs) h falls own lasts old free = absurd (none_contained x (All-contains (Contains []) (x ∷ xs) x own (contains_here x xs)))
  definition_decides (y ∷ ys) (x ∷ xs) h falls own lasts old free =
      let far = outside_far seconds (y ∷ ys) (last_after y ys) x xs refl own old in
      let a : extent.last_second ≡ second (last_after x xs).tick = h.seconds (last_after x xs) refl in
      let b : medium_second ≡ second (last_after y ys).tick = lasts (last_after y ys) refl in
      and_from (not extent.has_records || nat_le (extent.last_second + seconds) medium_second) (list_all (is_apart extent) pins)
      (or_right (not extent.has_records) (nat_le (extent.last_second + seconds) medium_second) (le-leb (extent.last_second + seconds) medium_second (omega (arith, a, b, far))))
      (all_pass (is_apart extent) pins (λ pin m. or_right (not extent.has_records) (nat_lt pin.b pin.a || (nat_lt pin.b extent.first || nat_le extent.next pin.a))
      (test_by_apart extent.first extent.next pin (apart_places extent.first extent.next (x ∷ xs) pin (omega arith) h.places h.ends (free pin m)))))

pub may_go_by_numbers-decides : (seconds : ℕ) (pins : List Pin) (held : List Record) (segment : Batches) (medium_second : ℕ) (extent : Extent)
    → IsExtent extent (segment_records segment) → NeverFalls 0 (segment_records segment) → AreAmong (segment_records segment) held → IsLastSecond medium_second held
    → IsTrue (may_go_by_numbers seconds pins medium_second extent) ↔ MayGo seconds pins held segment
may_go_by_numbers-decides seconds pins held segment medium_second extent h falls own lasts = (
  λ e. let k = numbers_decide seconds pins medium_second extent held (segment_records segment) h falls own lasts e in
      record { old = k.0; free = all_from (λ pin. HaveNoPlace pin.a pin.b (segment_records segment)) pins k.1 },
  λ g. definition_decides seconds pins medium_second extent held (segment_records segment) h falls own lasts g.old
      (λ pin m. All-contains (λ pin. HaveNoPlace pin.a pin.b (segment_records segment)) pins pin g.free m),
)

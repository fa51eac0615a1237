-- Two lists of records whose places rise: what is said of each place.
use Rattle.std.proofs.Common.{◌≡◌, ◌<◌, ◌≤◌, ⊎_elim, ℕ, Bool, true, false, cond, nat_lt, eqb, List, [], ◌∷◌, Contains, refl, sym, ap, ◌∙◌, subst, arith}
use Rattle.std.proofs.lemmas.Bool.{eqb-true, eqb-false, ltb-true, ltb-false}
use Rattle.std.proofs.lemmas.List.Elements.{All-contains}
use Rattle.vdr_terms.specs.Records.{Record}
use Rattle.vdr_durability.proofs.Lists.{contains_cases, contains_here, contains_there, none_contained}
use Rattle.vdr_compare.specs.declared.standing.Standing.{Standing}
use Rattle.vdr_compare.specs.declared.standing.Standing.TheVariants.{Both, Capsule, LongTerm}
use Rattle.vdr_compare.specs.Laws.{PlacesRise}
use Rattle.vdr_compare.specs.Standings.{capsule_alone, is_same, longterm_alone, standings}
use Rattle.vdr_compare.proofs.SoRecords.{places_so}

-- Places of one list

place_of : (r s : Record) → r ≡ s → r.place ≡ s.place
place_of r s e = ap (λ (x : Record). x.place) e

later : (r : Record) (rs : List Record) (s : Record) → PlacesRise (r ∷ rs) → Contains rs s → r.place < s.place
later r rs s h m = All-contains (λ later. r.place < later.place) rs s h.0 m

-- The first has the least one.
no_lower : (r : Record) (rs : List Record) (s : Record) → PlacesRise (r ∷ rs) → Contains (r ∷ rs) s → r.place ≤ s.place
no_lower r rs s h m = ⊎_elim
    (λ (e : r ≡ s). let p = place_of r s e in omega (arith, p))
    (λ (k : Contains rs s). let p = later r rs s h k in omega (arith, p))
    (contains_cases r rs s m)

-- One record stands at each.
pub one_at : (rs : List Record) (r s : Record) → PlacesRise rs → Contains rs r → Contains rs s → r.place ≡ s.place → r ≡ s
one_at [] r s h a b e = absurd (none_contained r a)
one_at (x ∷ rs) r s h a b e = ⊎_elim
    (λ (p : x ≡ r). ⊎_elim
    (λ (q : x ≡ s). sym p ∙ q)
    (λ (q : Contains rs s). let k = later x rs s h q in let l = place_of x r p in absurd (omega (arith, k, l, e)))
    (contains_cases x rs s b))
    (λ (p : Contains rs r). ⊎_elim
    (λ (q : x ≡ s). let k = later x rs r h p in let l = place_of x s q in absurd (omega (arith, k, l, e)))
    (λ (q : Contains rs s). one_at rs r s h.1 p q e)
    (contains_cases x rs s b))
    (contains_cases x rs r a)

-- Of both lists: what stands at the least place, and the others.
abbrev Split : (same less : Bool) → Record → List Record → Record → List Record → List Standing
Split same less x rs y ss = cond same (Both x.place (is_same x y) ∷ standings rs ss) (cond less (capsule_alone x ∷ standings rs (y ∷ ss)) (longterm_alone y ∷ standings (x ∷ rs) ss))

-- A place of both is said to be one of both.
module _ (r s : Record) (at : r.place ≡ s.place) where
  abbrev StandsOnBoth : List Record → List Record → Type 0
  StandsOnBoth rs ss = Contains rs r → Contains ss s → Contains (standings rs ss) (Both r.place (is_same r s))

  both_by : (x : Record) (rs : List Record) (y : Record) (ss : List Record) → PlacesRise (x ∷ rs) → PlacesRise (y ∷ ss) → StandsOnBoth rs ss → StandsOnBoth rs (y ∷ ss) → StandsOnBoth (x ∷ rs) ss
      → (same less : Bool) → eqb x.place y.place ≡ same → nat_lt x.place y.place ≡ less → Contains (x ∷ rs) r → Contains (y ∷ ss) s → Contains (Split same less x rs y ss) (Both r.place (is_same r s))
  both_by x rs y ss h k a b c true less e f p q =
      let one : x.place ≡ y.place = eqb-true x.place y.place e in
      ⊎_elim
      (λ (i : x ≡ r). ⊎_elim
      (λ (j : y ≡ s). subst (λ (z : Standing). Contains (Both x.place (is_same x y) ∷ standings rs ss) z) (λ n. Both ((i n).place) (is_same (i n) (j n))) (contains_here (Both x.place (is_same x y)) (standings rs ss)))
      (λ (j : Contains ss s). let l = later y ss s k j in let m = place_of x r i in absurd (omega (arith, l, m, one, at)))
      (contains_cases y ss s q))
      (λ (i : Contains rs r). ⊎_elim
      (λ (j : y ≡ s). let l = later x rs r h i in let m = place_of y s j in absurd (omega (arith, l, m, one, at)))
      (λ (j : Contains ss s). contains_there (Both x.place (is_same x y)) (standings rs ss) (Both r.place (is_same r s)) (a i j))
      (contains_cases y ss s q))
      (contains_cases x rs r p)
  both_by x rs y ss h k a b c false true e f p q =
      let lower : x.place < y.place = ltb-true x.place y.place f in
      ⊎_elim
      (λ (i : x ≡ r). let l = no_lower y ss s k q in let m = place_of x r i in absurd (omega (arith, lower, l, m, at)))
      (λ (i : Contains rs r). contains_there (capsule_alone x) (standings rs (y ∷ ss)) (Both r.place (is_same r s)) (b i q))
      (contains_cases x rs r p)
  both_by x rs y ss h k a b c false false e f p q =
      let other : x.place ≡ y.place → ⊥ = eqb-false x.place y.place e in
      let no_less : y.place ≤ x.place = ltb-false x.place y.place f in
      ⊎_elim
      (λ (j : y ≡ s). let l = no_lower x rs r h p in let m = place_of y s j in absurd (other (omega (arith, no_less, l, m, at))))
      (λ (j : Contains ss s). contains_there (longterm_alone y) (standings (x ∷ rs) ss) (Both r.place (is_same r s)) (c p j))
      (contains_cases y ss s q)

  pub both_at : (rs ss : List Record) → PlacesRise rs → PlacesRise ss → StandsOnBoth rs ss
  both_at [] ss h k p q = absurd (none_contained r p)
  both_at (x ∷ rs) [] h k p q = absurd (none_contained s q)
  both_at (x ∷ rs) (y ∷ ss) h k p q =
      both_by x rs y ss h k (both_at rs ss h.1 k.1) (both_at rs (y ∷ ss) h.1 k) (both_at (x ∷ rs) ss h k.1) (eqb x.place y.place) (nat_lt x.place y.place) refl refl p q

-- A place of the one list alone is said to be one.
abbrev pub HasNoneAt : List Record → (place : ℕ) → Type 0
HasNoneAt ss place = (s : Record) → Contains ss s → s.place ≡ place → ⊥

none_behind : (s : Record) (ss : List Record) (place : ℕ) → HasNoneAt (s ∷ ss) place → HasNoneAt ss place
none_behind s ss place none t m e = none t (contains_there s ss t m) e

module _ (r : Record) where
  abbrev IsCapsules : List Record → List Record → Type 0
  IsCapsules rs ss = Contains rs r → HasNoneAt ss r.place → Contains (standings rs ss) (capsule_alone r)

  capsule_by : (x : Record) (rs : List Record) (y : Record) (ss : List Record) → IsCapsules rs ss → IsCapsules rs (y ∷ ss) → IsCapsules (x ∷ rs) ss
      → (same less : Bool) → eqb x.place y.place ≡ same → Contains (x ∷ rs) r → HasNoneAt (y ∷ ss) r.place → Contains (Split same less x rs y ss) (capsule_alone r)
  capsule_by x rs y ss a b c true less e p none = ⊎_elim
      (λ (i : x ≡ r). absurd (none y (contains_here y ss) (sym (eqb-true x.place y.place e) ∙ place_of x r i)))
      (λ (i : Contains rs r). contains_there (Both x.place (is_same x y)) (standings rs ss) (capsule_alone r) (a i (none_behind y ss r.place none)))
      (contains_cases x rs r p)
  capsule_by x rs y ss a b c false true e p none = ⊎_elim
      (λ (i : x ≡ r). subst (λ (z : Standing). Contains (capsule_alone x ∷ standings rs (y ∷ ss)) z) (ap capsule_alone i) (contains_here (capsule_alone x) (standings rs (y ∷ ss))))
      (λ (i : Contains rs r). contains_there (capsule_alone x) (standings rs (y ∷ ss)) (capsule_alone r) (b i none))
      (contains_cases x rs r p)
  capsule_by x rs y ss a b c false false e p none = contains_there (longterm_alone y) (standings (x ∷ rs) ss) (capsule_alone r) (c p (none_behind y ss r.place none))

  pub capsule_at : (rs ss : List Record) → IsCapsules rs ss
  capsule_at [] ss p none = absurd (none_contained r p)
  capsule_at (x ∷ rs) [] p none = ⊎_elim
      (λ (i : x ≡ r). subst (λ (z : Standing). Contains (capsule_alone x ∷ standings rs []) z) (ap capsule_alone i) (contains_here (capsule_alone x) (standings rs [])))
      (λ (i : Contains rs r). contains_there (capsule_alone x) (standings rs []) (capsule_alone r) (capsule_at rs [] i none))
      (contains_cases x rs r p)
  capsule_at (x ∷ rs) (y ∷ ss) p none =
      capsule_by x rs y ss (capsule_at rs ss) (capsule_at rs (y ∷ ss)) (capsule_at (x ∷ rs) ss) (eqb x.place y.place) (nat_lt x.place y.place) refl p none

module _ (s : Record) where
  abbrev IsLongTerms : List Record → List Record → Type 0
  IsLongTerms rs ss = Contains ss s → HasNoneAt rs s.place → Contains (standings rs ss) (longterm_alone s)

  longterm_by : (x : Record) (rs : List Record) (y : Record) (ss : List Record) → IsLongTerms rs ss → IsLongTerms rs (y ∷ ss) → IsLongTerms (x ∷ rs) ss
      → (same less : Bool) → eqb x.place y.place ≡ same → Contains (y ∷ ss) s → HasNoneAt (x ∷ rs) s.place → Contains (Split same less x rs y ss) (longterm_alone s)
  longterm_by x rs y ss a b c true less e p none = ⊎_elim
      (λ (i : y ≡ s). absurd (none x (contains_here x rs) (eqb-true x.place y.place e ∙ place_of y s i)))
      (λ (i : Contains ss s). contains_there (Both x.place (is_same x y)) (standings rs ss) (longterm_alone s) (a i (none_behind x rs s.place none)))
      (contains_cases y ss s p)
  longterm_by x rs y ss a b c false true e p none = contains_there (capsule_alone x) (standings rs (y ∷ ss)) (longterm_alone s) (b p (none_behind x rs s.place none))
  longterm_by x rs y ss a b c false false e p none = ⊎_elim
      (λ (i : y ≡ s). subst (λ (z : Standing). Contains (longterm_alone y ∷ standings (x ∷ rs) ss) z) (ap longterm_alone i) (contains_here (longterm_alone y) (standings (x ∷ rs) ss)))
      (λ (i : Contains ss s). contains_there (longterm_alone y) (standings (x ∷ rs) ss) (longterm_alone s) (c i none))
      (contains_cases y ss s p)

  pub longterm_at : (rs ss : List Record) → IsLongTerms rs ss
  longterm_at rs [] p none = absurd (none_contained s p)
  longterm_at [] (y ∷ ss) p none = ⊎_elim
      (λ (i : y ≡ s). subst (λ (z : Standing). Contains (longterm_alone y ∷ standings [] ss) z) (ap longterm_alone i) (contains_here (longterm_alone y) (standings [] ss)))
      (λ (i : Contains ss s). contains_there (longterm_alone y) (standings [] ss) (longterm_alone s) (longterm_at [] ss i none))
      (contains_cases y ss s p)
  longterm_at (x ∷ rs) (y ∷ ss) p none =
      longterm_by x rs y ss (longterm_at rs ss) (longterm_at rs (y ∷ ss)) (longterm_at (x ∷ rs) ss) (eqb x.place y.place) (nat_lt x.place y.place) refl p none

-- And a place that is said to be one of the one list alone is none of the other.
module _ (place t : ℕ) (s : Record) (at : s.place ≡ place) where
  abbrev IsNotCapsules : List Record → List Record → Type 0
  IsNotCapsules rs ss = Contains (standings rs ss) (Capsule place t) → Contains ss s → ⊥

  not_capsule_by : (x : Record) (rs : List Record) (y : Record) (ss : List Record) → PlacesRise (x ∷ rs) → PlacesRise (y ∷ ss) → IsNotCapsules rs ss → IsNotCapsules rs (y ∷ ss) → IsNotCapsules (x ∷ rs) ss
      → (same less : Bool) → eqb x.place y.place ≡ same → nat_lt x.place y.place ≡ less → Contains (Split same less x rs y ss) (Capsule place t) → Contains (y ∷ ss) s → ⊥
  not_capsule_by x rs y ss h k a b c true less e f m q =
      let one : x.place ≡ y.place = eqb-true x.place y.place e in
      ⊎_elim
      (λ (i : Both x.place (is_same x y) ≡ Capsule place t). let none : ⊥ = cc in none)
      (λ (i : Contains (standings rs ss) (Capsule place t)). ⊎_elim
      (λ (j : y ≡ s). let so = places_so rs ss (Capsule place t) i in let l = later x rs so.0 h so.1 in let n = so.2 in let o = place_of y s j in absurd (omega (arith, l, n, o, one, at)))
      (λ (j : Contains ss s). a i j)
      (contains_cases y ss s q))
      (contains_cases (Both x.place (is_same x y)) (standings rs ss) (Capsule place t) m)
  not_capsule_by x rs y ss h k a b c false true e f m q =
      let lower : x.place < y.place = ltb-true x.place y.place f in
      ⊎_elim
      (λ (i : capsule_alone x ≡ Capsule place t). let here : x.place ≡ place = cc in let l = no_lower y ss s k q in absurd (omega (arith, lower, here, l, at)))
      (λ (i : Contains (standings rs (y ∷ ss)) (Capsule place t)). b i q)
      (contains_cases (capsule_alone x) (standings rs (y ∷ ss)) (Capsule place t) m)
  not_capsule_by x rs y ss h k a b c false false e f m q =
      let other : x.place ≡ y.place → ⊥ = eqb-false x.place y.place e in
      let no_less : y.place ≤ x.place = ltb-false x.place y.place f in
      ⊎_elim
      (λ (i : longterm_alone y ≡ Capsule place t). let none : ⊥ = cc in none)
      (λ (i : Contains (standings (x ∷ rs) ss) (Capsule place t)). ⊎_elim
      (λ (j : y ≡ s). let so = places_so (x ∷ rs) ss (Capsule place t) i in let l = no_lower x rs so.0 h so.1 in let n = so.2 in let o = place_of y s j in absurd (other (omega (arith, no_less, l, n, o, at))))
      (λ (j : Contains ss s). c i j)
      (contains_cases y ss s q))
      (contains_cases (longterm_alone y) (standings (x ∷ rs) ss) (Capsule place t) m)

  pub not_capsule : (rs ss : List Record) → PlacesRise rs → PlacesRise ss → IsNotCapsules rs ss
  not_capsule rs [] h k m q = none_contained s q
  not_capsule [] (y ∷ ss) h k m q = none_contained (places_so [] (y ∷ ss) (Capsule place t) m).0 (places_so [] (y ∷ ss) (Capsule place t) m).1
  not_capsule (x ∷ rs) (y ∷ ss) h k m q =
      not_capsule_by x rs y ss h k (not_capsule rs ss h.1 k.1) (not_capsule rs (y ∷ ss) h.1 k) (not_capsule (x ∷ rs) ss h k.1) (eqb x.place y.place) (nat_lt x.place y.place) refl refl m q

module _ (place t : ℕ) (r : Record) (at : r.place ≡ place) where
  abbrev IsNotLongTerms : List Record → List Record → Type 0
  IsNotLongTerms rs ss = Contains (standings rs ss) (LongTerm place t) → Contains rs r → ⊥

  not_longterm_by : (x : Record) (rs : List Record) (y : Record) (ss : List Record) → PlacesRise (x ∷ rs) → PlacesRise (y ∷ ss) → IsNotLongTerms rs ss → IsNotLongTerms rs (y ∷ ss) → IsNotLongTerms (x ∷ rs) ss
      → (same less : Bool) → eqb x.place y.place ≡ same → nat_lt x.place y.place ≡ less → Contains (Split same less x rs y ss) (LongTerm place t) → Contains (x ∷ rs) r → ⊥
  not_longterm_by x rs y ss h k a b c true less e f m p =
      let one : x.place ≡ y.place = eqb-true x.place y.place e in
      ⊎_elim
      (λ (i : Both x.place (is_same x y) ≡ LongTerm place t). let none : ⊥ = cc in none)
      (λ (i : Contains (standings rs ss) (LongTerm place t)). ⊎_elim
      (λ (j : x ≡ r). let so = places_so rs ss (LongTerm place t) i in let l = later y ss so.0 k so.1 in let n = so.2 in let o = place_of x r j in absurd (omega (arith, l, n, o, one, at)))
      (λ (j : Contains rs r). a i j)
      (contains_cases x rs r p))
      (contains_cases (Both x.place (is_same x y)) (standings rs ss) (LongTerm place t) m)
  not_longterm_by x rs y ss h k a b c false true e f m p =
      let lower : x.place < y.place = ltb-true x.place y.place f in
      ⊎_elim
      (λ (i : capsule_alone x ≡ LongTerm place t). let none : ⊥ = cc in none)
      (λ (i : Contains (standings rs (y ∷ ss)) (LongTerm place t)). ⊎_elim
      (λ (j : x ≡ r). let so = places_so rs (y ∷ ss) (LongTerm place t) i in let l = no_lower y ss so.0 k so.1 in let n = so.2 in let o = place_of x r j in absurd (omega (arith, lower, l, n, o, at)))
      (λ (j : Contains rs r). b i j)
      (contains_cases x rs r p))
      (contains_cases (capsule_alone x) (standings rs (y ∷ ss)) (LongTerm place t) m)
  not_longterm_by x rs y ss h k a b c false false e f m p =
      let other : x.place ≡ y.place → ⊥ = eqb-false x.place y.place e in
      let no_less : y.place ≤ x.place = ltb-false x.place y.place f in
      ⊎_elim
      (λ (i : longterm_alone y ≡ LongTerm place t). let here : y.place ≡ place = cc in let l = no_lower x rs r h p in absurd (other (omega (arith, no_less, here, l, at))))
      (λ (i : Contains (standings (x ∷ rs) ss) (LongTerm place t)). c i p)
      (contains_cases (longterm_alone y) (standings (x ∷ rs) ss) (LongTerm place t) m)

  pub not_longterm : (rs ss : List Record) → PlacesRise rs → PlacesRise ss → IsNotLongTerms rs ss
  not_longterm [] ss h k m p = none_contained r p
  not_longterm (x ∷ rs) [] h k m p = none_contained (places_so (x ∷ rs) [] (LongTerm place t) m).0 (places_so (x ∷ rs) [] (LongTerm place t) m).1
  not_longterm (x ∷ rs) (y ∷ ss) h k m p =
      not_longterm_by x rs y ss h k (not_longterm rs ss h.1 k.1) (not_longterm rs (y ∷ ss) h.1 k) (not_longterm (x ∷ rs) ss h k.1) (eqb x.place y.place) (nat_lt x.place y.place) refl refl m p

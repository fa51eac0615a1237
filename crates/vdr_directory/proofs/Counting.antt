-- How many slots are open where all are.
use Rattle.std.proofs.Common.{◌≡◌, ◌≢◌, ◌<◌, ◌≤◌, ◌+◌, ℕ, zero, suc, true, false, eqb, List, [], ◌∷◌, length, map, All, Contains, Option, Some, ⊎_elim, refl, ap, subst, arith}
use Rattle.std.specs.Prelude.{Any}
use Rattle.std.specs.Cmp.{IsEquivalence}
use Rattle.std.specs.List.{AllByRecursion, IsDistinct}
use Rattle.std.proofs.lemmas.Bool.{eq-eqb, eqb-true}
use Rattle.std.proofs.lemmas.Bool.Decides.{eqb_tells}
use Rattle.std.proofs.lemmas.List.Elements.{All-nil, All-cons, All-head, All-tail, All-weaker, All-contains}
use Rattle.std.proofs.lemmas.Map.Keys.{IsDistinct-cons}
use Rattle.std.proofs.lemmas.Map.Made.{length-le_from_is_member}
use Rattle.std.proofs.lemmas.Map.Steps.{length-le_from_distinct_below}
use Rattle.std.proofs.lemmas.Map.Views.{list_any-from_Contains, Contains-from_any}
use Rattle.vdr_terms.proofs.Somewhere.{any_cases, any_none}
use Rattle.vdr_durability.proofs.Lists.{none_contained, contains_here, contains_there, contains_cases, all_from}
use Rattle.vdr_directory.specs.Sequence.{Placed}
use Rattle.vdr_directory.specs.Order.{AreInPlace}
use Rattle.vdr_directory.specs.Fronts.{Ascends}
use Rattle.vdr_directory.proofs.Sequencing.{flips, distinct}
use Rattle.vdr_directory.proofs.Known.{IsEarlier, all_behind}

laws : IsEquivalence eqb
laws = record {
  refl = λ j. eq-eqb j j refl;
  symm = flips;
  congr = λ j k l same. ap (λ (n : ℕ). eqb n l) (eqb-true j k same);
}

-- So many numbers, from one on.
upto : (from n : ℕ) → List ℕ
upto from zero = []
upto from (suc n) = from ∷ upto (suc from) n

length_upto : (from n : ℕ) → length (upto from n) ≡ n
unfolding upto
length_upto from zero = refl
length_upto from (suc n) = let k = length_upto (suc from) n in omega (arith, k)

upto_above : (from n : ℕ) → All (λ j. from ≤ j) (upto from n)
unfolding upto
upto_above from zero = All-nil (λ j. from ≤ j)
upto_above from (suc n) = All-cons (λ j. from ≤ j) from (upto (suc from) n) (omega arith) (All-weaker (λ j. suc from ≤ j) (λ j. from ≤ j) (λ j le. omega (arith, le)) (upto (suc from) n) (upto_above (suc from) n))

ascend_upto : (from n : ℕ) → Ascends (upto from n)
unfolding upto
ascend_upto from zero = tt
ascend_upto from (suc n) = (All-weaker (λ j. suc from ≤ j) (λ j. from < j) (λ j le. omega (arith, le)) (upto (suc from) n) (upto_above (suc from) n), ascend_upto (suc from) n)

upto_below : (from n j : ℕ) → Contains (upto from n) j → j < from + n
unfolding upto
upto_below from zero j m = absurd (none_contained j m)
upto_below from (suc n) j m = ⊎_elim
    (λ (e : from ≡ j). omega (arith, e))
    (λ (k : Contains (upto (suc from) n) j). let lt = upto_below (suc from) n j k in omega (arith, lt))
    (contains_cases from (upto (suc from) n) j m)

-- Each number below n, once, and no other.
pub as_many : (n : ℕ) (xs : List ℕ) → IsDistinct eqb xs → ((j : ℕ) → Contains xs j → j < n) → ((j : ℕ) → j < n → Contains xs j) → length xs ≡ n
as_many n xs apart below all =
    let most : length xs ≤ n = length-le_from_distinct_below xs n apart (λ q there. below q (Contains-from_any (λ x y same. eqb-true x y same) q xs there)) in
    let least : length (upto 0 n) ≤ length xs = length-le_from_is_member laws (upto 0 n) xs (distinct (upto 0 n) (ascend_upto 0 n))
    (λ q there. let lt = upto_below 0 n q (Contains-from_any (λ x y same. eqb-true x y same) q (upto 0 n) there) in list_any-from_Contains laws q xs (all q (omega (arith, lt)))) in
    let long = length_upto 0 n in
    omega (arith, most, least, long)

-- The slots of segments

other_slots : (p : Placed) (ps : List Placed) → All (λ q. p.slot ≢ q.slot) ps → AllByRecursion (λ k. eqb p.slot k ≡ false) (map (λ (q : Placed). q.slot) ps)
other_slots p [] h = tt
other_slots p (q ∷ qs) h =
    let other : eqb p.slot q.slot ≡ false = ⊎_elim
    (λ (e : (eqb p.slot q.slot ≡ true) × (p.slot ≡ q.slot)). absurd (All-head (λ q. p.slot ≢ q.slot) q qs h e.1))
    (λ (e : (eqb p.slot q.slot ≡ false) × (p.slot ≢ q.slot)). e.0)
    (eqb_tells p.slot q.slot) in
    (other, other_slots p qs (All-tail (λ q. p.slot ≢ q.slot) q qs h))

pub slots_distinct : (o : Option Placed) (placed : List Placed) → AreInPlace o placed → ((p q : Placed) → Contains placed p → Contains placed q → IsEarlier p q → p.slot ≢ q.slot) → IsDistinct eqb (map (λ (p : Placed). p.slot) placed)
unfolding IsDistinct
slots_distinct o [] h apart = tt
slots_distinct o (p ∷ ps) h apart = IsDistinct-cons eqb p.slot (map (λ (q : Placed). q.slot) ps)
    (other_slots p ps (all_from (λ q. p.slot ≢ q.slot) ps (λ q m. apart p q (contains_here p ps) (contains_there p ps q m) (All-contains (λ q. IsEarlier p q) ps q (all_behind p ps h.1) m))))
    (slots_distinct (Some p) ps h.1 (λ a b m n. apart a b (contains_there p ps a m) (contains_there p ps b n)))

pub slot_contained : (ps : List Placed) (j : ℕ) → Contains (map (λ (p : Placed). p.slot) ps) j → (p : Placed) × Contains ps p × (p.slot ≡ j)
slot_contained [] j m = absurd (none_contained j m)
slot_contained (p ∷ ps) j m = ⊎_elim
    (λ (e : p.slot ≡ j). let r : (q : Placed) × Contains (p ∷ ps) q × (q.slot ≡ j) = (p, contains_here p ps, e) in r)
    (λ (k : Contains (map (λ (p : Placed). p.slot) ps) j). let f = slot_contained ps j k in let r : (q : Placed) × Contains (p ∷ ps) q × (q.slot ≡ j) = (f.0, contains_there p ps f.0 f.1, f.2) in r)
    (contains_cases p.slot (map (λ (p : Placed). p.slot) ps) j m)

pub slot_there : (ps : List Placed) (j : ℕ) → Any (λ p. p.slot ≡ j) ps → Contains (map (λ (p : Placed). p.slot) ps) j
slot_there [] j h = absurd (any_none (λ (p : Placed). p.slot ≡ j) h)
slot_there (p ∷ ps) j h = ⊎_elim
    (λ (e : p.slot ≡ j). subst (λ (k : ℕ). Contains (map (λ (p : Placed). p.slot) (p ∷ ps)) k) e (contains_here p.slot (map (λ (p : Placed). p.slot) ps)))
    (λ (k : Any (λ p. p.slot ≡ j) ps). contains_there p.slot (map (λ (p : Placed). p.slot) ps) j (slot_there ps j k))
    (any_cases (λ (p : Placed). p.slot ≡ j) p ps h)

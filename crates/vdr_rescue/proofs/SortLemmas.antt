-- Lists in order with the same elements are one.
use Rattle.std.proofs.Common.{◌≡◌, ◌≤◌, ◌+◌, ◌==◌, ◌&&◌, ℕ, suc, Bool, true, false, true≢false, List, [], ◌∷◌, All, get_or, cond, Ordering, Less, Equal, Greater, nat_cmp, nat_lt, nat_eq, is_eq, refl, sym, ap, ◌∙◌, arith}
use Rattle.std.specs.Prelude.{if◌then◌else◌, ⊤, sum_by}
use Rattle.std.specs.Cmp.{IsStrictWeakOrder, IsTotalOrder}
use Rattle.std.specs.List.Sorted.{IsNonDecreasing, IsPermutation, IsSortedBy}
use Rattle.std.specs.Ordering.{is_lt, ordering_reverse, ordering_then}
use Rattle.std.proofs.lemmas.Bool.{and_parts, eqb-true, ltb-false, ltb-true, ne_eqb}
use Rattle.std.proofs.lemmas.Cmp.{nat_cmp_total, on_total, then_total}
use Rattle.std.proofs.lemmas.List.Elements.{All-cons, All-head, All-tail}
use Rattle.std.proofs.lemmas.List.Sorted.{ranks_by, sorted_far, sum_by-IsPermutation}
use Rattle.std.proofs.lemmas.List.Sums.{sum_by-cons}
use Rattle.vdr_rescue.specs.declared.fronts.Head.{Head}
use Rattle.vdr_rescue.specs.Alones.{IsReadingOrder, is_before}

-- The same elements, by any sum over them.
abbrev pub SameSums : {X : Type 0} → List X → List X → Type 0
SameSums {X} xs ys = (f : X → ℕ) → sum_by f xs ≡ sum_by f ys

same_moved : {X : Type 0} (zs xs ys : List X) → IsPermutation zs xs → IsPermutation zs ys → SameSums xs ys
same_moved zs xs ys p q = λ f. sum_by-IsPermutation f zs xs p ∙ sym (sum_by-IsPermutation f zs ys q)

module _ {X : Type 0} (lt : X → X → Bool) where
  abbrev pub Rising : List X → Type 0
  Rising [] = ⊤
  Rising (x ∷ xs) = All (λ z. lt z x ≡ false) xs × Rising xs

  abbrev below : X → X → ℕ
  below y z = if lt z y then 1 else 0

  none_below : (y : X) (zs : List X) → All (λ z. lt z y ≡ false) zs → sum_by (below y) zs ≡ 0
  none_below y [] h = refl
  none_below y (z ∷ zs) h =
      let here : below y z ≡ 0 = ap (λ (b : Bool). if b then 1 else 0) (All-head (λ (x : X). lt x y ≡ false) z zs h) in
      let rest : sum_by (below y) zs ≡ 0 = none_below y zs (All-tail (λ (x : X). lt x y ≡ false) z zs h) in
      sum_by-cons (below y) z zs ∙ (let e : below y z + sum_by (below y) zs ≡ 0 = omega (arith, here, rest) in e)

  head_not_below : (x y : X) (xs : List X) → sum_by (below y) (x ∷ xs) ≡ 0 → lt x y ≡ false
  head_not_below x y xs none = go (lt x y) refl
    where
      go : (b : Bool) → lt x y ≡ b → lt x y ≡ false
      go false is = is
      go true is =
          let one : below y x ≡ 1 = ap (λ (b : Bool). if b then 1 else 0) is in
          let all : below y x + sum_by (below y) xs ≡ 0 = sym (sum_by-cons (below y) x xs) ∙ none in
          absurd (omega (arith, one, all))

module _ {X : Type 0} (lt : X → X → Bool) (irr : (a : X) → lt a a ≡ false) (anti : (a b : X) → lt a b ≡ false → lt b a ≡ false → a ≡ b) where
  pub one_rising : (xs ys : List X) → Rising lt xs → Rising lt ys → SameSums xs ys → xs ≡ ys
  one_rising [] [] r s same = refl
  one_rising [] (y ∷ ys) r s same =
      let e : 0 ≡ 1 + sum_by (λ (z : X). 1) ys = same (λ z. 1) ∙ sum_by-cons (λ (z : X). 1) y ys in absurd (omega (arith, e))
  one_rising (x ∷ xs) [] r s same =
      let e : 1 + sum_by (λ (z : X). 1) xs ≡ 0 = sym (sum_by-cons (λ (z : X). 1) x xs) ∙ same (λ z. 1) in absurd (omega (arith, e))
  one_rising (x ∷ xs) (y ∷ ys) r s same =
      let no_x : sum_by (below lt x) (x ∷ xs) ≡ 0 = none_below lt x (x ∷ xs) (All-cons (λ (z : X). lt z x ≡ false) x xs (irr x) r.0) in
      let no_y : sum_by (below lt y) (y ∷ ys) ≡ 0 = none_below lt y (y ∷ ys) (All-cons (λ (z : X). lt z y ≡ false) y ys (irr y) s.0) in
      let is : x ≡ y = anti x y (head_not_below lt x y xs (same (below lt y) ∙ no_y)) (head_not_below lt y x ys (sym (same (below lt x)) ∙ no_x)) in
      let rest : SameSums xs ys = λ f.
      let whole : f x + sum_by f xs ≡ f y + sum_by f ys = sym (sum_by-cons f x xs) ∙ same f ∙ sum_by-cons f y ys in
      let heads : f x ≡ f y = ap f is in
      omega (arith, whole, heads) in
      ap (λ (z : X). z ∷ xs) is ∙ ap (λ (zs : List X). y ∷ zs) (one_rising xs ys r.1 s.1 rest)

-- Segments in the order of reading

abbrev order : Head → Head → Ordering
order g h = ordering_then (ordering_then (nat_cmp g.first h.first) (nat_cmp g.seq h.seq)) (nat_cmp g.slot h.slot)

order_total : IsTotalOrder order
order_total = then_total (then_total (on_total (λ (h : Head). h.first) nat_cmp_total) (on_total (λ (h : Head). h.seq) nat_cmp_total)) (on_total (λ (h : Head). h.slot) nat_cmp_total)

weak : IsStrictWeakOrder is_before
weak = ranks_by order_total (λ (h : Head). h)

pub rising_heads : (hs : List Head) → IsSortedBy is_before hs → Rising is_before hs
rising_heads [] up = tt
rising_heads (h ∷ hs) up = (
  λ k d within. sorted_far is_before weak (h ∷ hs) up 0 (suc k) d (omega arith) (omega (arith, within)),
  rising_heads hs (λ k d low within. sorted_far is_before weak (h ∷ hs) up (suc k) (suc (k + 1)) d (omega arith) (omega (arith, within))),
)

pub never_itself : (h : Head) → is_before h h ≡ false
never_itself h = go (is_before h h) refl
  where
    go : (b : Bool) → is_before h h ≡ b → is_before h h ≡ false
    go false is = is
    go true is = weak.one_way h h is

equal_by : (o p : Ordering) → o ≡ ordering_reverse p → is_lt o ≡ false → is_lt p ≡ false → is_eq o ≡ true
equal_by Less p r a b = absurd (true≢false a)
equal_by Equal p r a b = refl
equal_by Greater Less r a b = absurd (true≢false b)
equal_by Greater Equal r a b = absurd (let none : ⊥ = cc in none)
equal_by Greater Greater r a b = absurd (let none : ⊥ = cc in none)

then_eq : (o p : Ordering) (s t : Bool) → is_eq o ≡ s → is_eq p ≡ t → is_eq (ordering_then o p) ≡ s && t
then_eq Less p s t d e = ap (λ b. b && t) d
then_eq Equal p s t d e = e ∙ ap (λ b. b && t) d
then_eq Greater p s t d e = ap (λ b. b && t) d

by_tests : (less same : Bool) → (less ≡ true → same ≡ false) → is_eq (cond less Less (cond same Equal Greater)) ≡ same
by_tests true same apart = sym (apart refl)
by_tests false true apart = refl
by_tests false false apart = refl

number_eq : (a b : ℕ) → is_eq (nat_cmp a b) ≡ nat_eq a b
number_eq a b = by_tests (nat_lt a b) (a == b) (λ less. let l = ltb-true a b less in ne_eqb a b (λ same. absurd (omega (arith, l, same))))

head_path : (a b c d e f : ℕ) → a ≡ d → b ≡ e → c ≡ f → ◌≡◌ {A = Head} (record { slot = a; seq = b; first = c }) (record { slot = d; seq = e; first = f })
head_path a b c d e f p q r = λ i. record { slot = p i; seq = q i; first = r i }

pub one_head : (g h : Head) → is_before g h ≡ false → is_before h g ≡ false → g ≡ h
one_head g h a b =
    let same : is_eq (order g h) ≡ true = equal_by (order g h) (order h g) (order_total.antisymm g h) a b in
    let tests : is_eq (order g h) ≡ (nat_eq g.first h.first && nat_eq g.seq h.seq) && nat_eq g.slot h.slot =
    then_eq _ _ _ _ (then_eq _ _ _ _ (number_eq g.first h.first) (number_eq g.seq h.seq)) (number_eq g.slot h.slot) in
    let both = and_parts _ _ (sym tests ∙ same) in
    let firsts = and_parts _ _ both.0 in
    head_path g.slot g.seq g.first h.slot h.seq h.first (eqb-true g.slot h.slot both.1) (eqb-true g.seq h.seq firsts.1) (eqb-true g.first h.first firsts.0)

pub one_order : (heads xs ys : List Head) → IsReadingOrder heads xs → IsReadingOrder heads ys → xs ≡ ys
one_order heads xs ys p q = one_rising is_before never_itself one_head xs ys (rising_heads xs p.sorted) (rising_heads ys q.sorted) (same_moved heads xs ys p.moved q.moved)

-- Offsets in order

not_lt : (a b : ℕ) → b ≤ a → nat_lt a b ≡ false
not_lt a b le = search (arith, le)

rising_offsets : (xs : List ℕ) → IsNonDecreasing xs → Rising nat_lt xs
rising_offsets [] up = tt
rising_offsets (x ∷ xs) up = (
  λ k d within. not_lt (get_or xs k d) x (up 0 (suc k) d (omega arith) (omega (arith, within))),
  rising_offsets xs (λ i j d le within. up (suc i) (suc j) d (omega (arith, le)) (omega (arith, within))),
)

pub one_sorted : (zs xs ys : List ℕ) → IsPermutation zs xs → IsPermutation zs ys → IsNonDecreasing xs → IsNonDecreasing ys → xs ≡ ys
one_sorted zs xs ys p q up vp = one_rising nat_lt (λ a. not_lt a a (omega arith)) (λ a b x y. let l = ltb-false a b x in let m = ltb-false b a y in omega (arith, l, m)) xs ys (rising_offsets xs up) (rising_offsets ys vp) (same_moved zs xs ys p q)

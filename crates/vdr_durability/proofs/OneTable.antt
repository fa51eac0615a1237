-- Lines have one table.
use Rattle.std.proofs.Common.{List, [], ◌∷◌, slice_get, option_map, All, Contains, Option, Some, None, ◌≡◌, ⊎_elim, refl, sym, ap, ap₂, ◌∙◌, subst, Less, Greater}
use Rattle.std.specs.Ordering.{ordering_reverse}
use Rattle.std.proofs.lemmas.List.Elements.{All-contains}
use Rattle.vdr_terms.specs.Records.{last}
use Rattle.vdr_durability.proofs.Lists.{all_from, contains_cases, contains_here, contains_there, filter_test, filter_was, none_contained}
use Rattle.vdr_durability.specs.Sources.{AreRows, AreSorted, HasRow, IsRowOf, Line, Row, Source, is_same, lines_from, source_cmp}
use Rattle.vdr_durability.proofs.SourceOrder.{same_source, turned}

-- two sorted tables of the same rows are one
never_both : (a b : Source) → source_cmp a b ≡ Less → source_cmp b a ≡ Less → ⊥
never_both a b p q = clash (sym p ∙ (turned a b ∙ ap ordering_reverse q))
  where
    clash : Less ≡ Greater → ⊥
    clash e = cc

same_sorted : (xs ys : List Row) → AreSorted xs → AreSorted ys → All (Contains ys) xs → All (Contains xs) ys → xs ≡ ys
same_sorted [] [] h k p q = refl
same_sorted [] (y ∷ ys) h k p q = absurd (none_contained y (All-contains (Contains []) (y ∷ ys) y q (contains_here y ys)))
same_sorted (x ∷ xs) [] h k p q = absurd (none_contained x (All-contains (Contains []) (x ∷ xs) x p (contains_here x xs)))
same_sorted (x ∷ xs) (y ∷ ys) (first, more) (first', more') p q = ap₂ (λ (z : Row) (zs : List Row). z ∷ zs) heads (same_sorted xs ys more more' tails tails')
  where
    heads : x ≡ y
    heads = ⊎_elim
        (λ (a : y ≡ x). sym a)
        (λ (a : Contains ys x). ⊎_elim
        (λ (b : x ≡ y). b)
        (λ (b : Contains xs y). absurd (never_both y.source x.source
        (All-contains (λ later. source_cmp y.source later.source ≡ Less) ys x first' a)
        (All-contains (λ later. source_cmp x.source later.source ≡ Less) xs y first b)))
        (contains_cases x xs y (All-contains (Contains (x ∷ xs)) (y ∷ ys) y q (contains_here y ys))))
        (contains_cases y ys x (All-contains (Contains (y ∷ ys)) (x ∷ xs) x p (contains_here x xs)))

    tails : All (Contains ys) xs
    tails = all_from (Contains ys) xs (λ z m. ⊎_elim
        (λ (e : y ≡ z).
        let c = All-contains (λ later. source_cmp x.source later.source ≡ Less) xs z first m in
        let d : source_cmp x.source x.source ≡ Less = subst (λ (r : Row). source_cmp x.source r.source ≡ Less) (sym (heads ∙ e)) c in
        absurd (never_both x.source x.source d d))
        (λ (k : Contains ys z). k)
        (contains_cases y ys z (All-contains (Contains (y ∷ ys)) (x ∷ xs) z p (contains_there x xs z m))))

    tails' : All (Contains xs) ys
    tails' = all_from (Contains xs) ys (λ z m. ⊎_elim
        (λ (e : x ≡ z).
        let c = All-contains (λ later. source_cmp y.source later.source ≡ Less) ys z first' m in
        let d : source_cmp y.source y.source ≡ Less = subst (λ (r : Row). source_cmp y.source r.source ≡ Less) (sym (sym heads ∙ e)) c in
        absurd (never_both y.source y.source d d))
        (λ (k : Contains xs z). k)
        (contains_cases x xs z (All-contains (Contains (x ∷ xs)) (y ∷ ys) z q (contains_there y ys z m))))

-- two rows of a source with the same lines are one
same_some : {X : Type 0} (o : Option X) (x y : X) → o ≡ Some x → o ≡ Some y → x ≡ y
same_some o x y p q = cc

same_row : (own : List Line) (r s : Row) → r.source ≡ s.source → IsRowOf own r → IsRowOf own s → r ≡ s
same_row own r s e h k =
    let first = same_some (option_map (λ l. l.utc) (slice_get own 0)) r.first s.first h.begins k.begins in
    let final = same_some (option_map (λ l. l.utc) (last own)) r.last s.last h.ends k.ends in
    let lines = h.size ∙ sym k.size in
    let bad = h.bad ∙ sym k.bad in
    let breaks = h.breaks ∙ sym k.breaks in
    let count = h.latest ∙ sym k.latest in
    λ i. record { source = e i; first = first i; last = final i; lines = lines i; bad = bad i; breaks = breaks i; count = count i }

-- a row's source has a line
has_line : (lines : List Line) (r : Row) → IsRowOf (lines_from r.source lines) r → (l : Line) × Contains lines l × (l.source ≡ r.source)
has_line lines r h = go (lines_from r.source lines) refl h.begins
  where
    none : None ≡ Some r.first → ⊥
    none e = cc

    go : (own : List Line) → lines_from r.source lines ≡ own → option_map (λ l. l.utc) (slice_get own 0) ≡ Some r.first → (l : Line) × Contains lines l × (l.source ≡ r.source)
    go [] e b = absurd (none b)
    go (l ∷ ls) e b =
        let m : Contains (lines_from r.source lines) l = subst (λ (own : List Line). Contains own l) (sym e) (contains_here l ls) in (
          l,
          filter_was (λ (l : Line). is_same r.source l.source) lines l m,
          sym (same_source r.source l.source (filter_test (λ (l : Line). is_same r.source l.source) lines l m)),
        )

-- each row of one table is one of the other
is_there : (lines : List Line) (rows others : List Row) → AreRows lines rows → AreRows lines others → All (Contains others) rows
is_there lines rows others h k = all_from (Contains others) rows (λ r m.
    let mine : IsRowOf (lines_from r.source lines) r = All-contains (λ r. IsRowOf (lines_from r.source lines) r) rows r h.each m in
    let l = has_line lines r mine in
    let other = All-contains (λ l. HasRow others l.source) lines l.0 k.every l.1 in
    let same : other.0.source ≡ r.source = other.2 ∙ l.2 in
    let its : IsRowOf (lines_from r.source lines) other.0 = subst (λ (s : Source). IsRowOf (lines_from s lines) other.0) same (All-contains (λ r. IsRowOf (lines_from r.source lines) r) others other.0 k.each other.1) in
    subst (λ (x : Row). Contains others x) (same_row (lines_from r.source lines) other.0 r same its mine) other.1)

pub one_table : (lines : List Line) (rows others : List Row) → AreRows lines rows → AreRows lines others → rows ≡ others
one_table lines rows others h k = same_sorted rows others h.sorted k.sorted (is_there lines rows others h k) (is_there lines others rows k h)

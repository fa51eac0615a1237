-- The table of sources has the rows of its lines.
use Rattle.std.proofs.Common.{ℕ, ◌+◌, List, [], ◌∷◌, ◌++◌, Bool, true, false, true≢false, not, cond, filter_map, fold, option_map, All, Contains, Option, Some, None, ◌≡◌, ⊎_elim, refl, sym, ap, ◌∙◌, subst, arith, append-nil, append_assoc, length-append, Ordering, Less, Equal, Greater}
use Rattle.std.specs.Ordering.{ordering_reverse}
use Rattle.std.proofs.lemmas.Bool.{cond-true, cond-false}
use Rattle.std.proofs.lemmas.List.Elements.{All-append, All-cons, All-contains, All-head, All-nil, All-tail, filter-append, filter_map-append}
use Rattle.std.proofs.lemmas.List.Sums.{sum_by-append}
use Rattle.vdr_terms.specs.Records.{last}
use Rattle.vdr_durability.proofs.Lists.{all_from, contains_cases, contains_here, contains_there, last_behind, none_contained}
use Rattle.vdr_durability.specs.Sources.{AreRows, AreSorted, HasRow, IsRowOf, Line, Row, Source, break_at, breaks_after, breaks_in, counts_of, first_row, is_same, later_count, lines_from, one_line, put_line, source_cmp, table_of, with_line}
use Rattle.vdr_durability.proofs.Found.{none_passes}
use Rattle.vdr_durability.proofs.SourceOrder.{before_both, is_same_where, itself, one_where, same_before, same_source, turned}

-- one more count
one_break : (n : ℕ) (ns : List ℕ) (m : ℕ) → breaks_after n (ns ++ m ∷ []) ≡ breaks_after n ns + break_at (last (n ∷ ns)) (Some m)
one_break n [] m = omega arith
one_break n (k ∷ ns) m = let a = one_break k ns m in omega (arith, a)

more_breaks : (ns : List ℕ) (o : Option ℕ) → breaks_in (ns ++ filter_map (λ o. o) (o ∷ [])) ≡ breaks_in ns + break_at (last ns) o
more_breaks [] None = refl
more_breaks [] (Some m) = refl
more_breaks (n ∷ ns) None = ap breaks_in (append-nil (n ∷ ns)) ∙ omega arith
more_breaks (n ∷ ns) (Some m) = one_break n ns m

latest : (ns : List ℕ) (o : Option ℕ) → last (ns ++ filter_map (λ o. o) (o ∷ [])) ≡ later_count (last ns) o
latest ns None = ap last (append-nil ns)
latest ns (Some m) = last_behind ns m []

more_counts : (own : List Line) (l : Line) → counts_of (own ++ l ∷ []) ≡ counts_of own ++ filter_map (λ o. o) (l.count ∷ [])
more_counts own l = filter_map-append (λ l. l.count) own (l ∷ [])

-- A row with one more line is that of its lines with this one.
more_of_row : (own : List Line) (r : Row) (l : Line) → IsRowOf own r → IsRowOf (own ++ l ∷ []) (one_line r l)
more_of_row [] r l h = absurd (none h.begins)
  where
    none : None ≡ Some r.first → ⊥
    none e = cc
more_of_row (x ∷ xs) r l h = record {
  begins = h.begins;
  ends = ap (option_map (λ l. l.utc)) (last_behind (x ∷ xs) l []);
  size = let a = length-append (x ∷ xs) (l ∷ []) in let b = h.size in omega (arith, a, b);
  bad = let a = sum_by-append (λ (l : Line). cond {A = ℕ} (not l.good) 1 0) (x ∷ xs) (l ∷ []) in let b = h.bad in let c = one_bad l.good in omega (arith, a, b, c);
  breaks = let a = ap breaks_in (more_counts (x ∷ xs) l) ∙ more_breaks (counts_of (x ∷ xs)) l.count in let b = h.breaks in let c = ap (λ (o : Option ℕ). break_at o l.count) h.latest in omega (arith, a, b, c);
  latest = ap (λ (o : Option ℕ). later_count o l.count) h.latest ∙ sym (ap last (more_counts (x ∷ xs) l) ∙ latest (counts_of (x ∷ xs)) l.count);
}
  where
    one_bad : (t : Bool) → cond {A = ℕ} (not t) 1 0 ≡ cond {A = ℕ} t 0 1
    one_bad true = refl
    one_bad false = refl

-- The row of one line.
row_of_one : (l : Line) → IsRowOf (l ∷ []) (first_row l)
row_of_one l = record {
  begins = refl;
  ends = refl;
  size = refl;
  bad = one_bad l.good;
  breaks = one_count l.count;
  latest = one_last l.count;
}
  where
    one_bad : (t : Bool) → cond {A = ℕ} t 0 1 ≡ 0 + cond {A = ℕ} (not t) 1 0
    one_bad true = refl
    one_bad false = refl

    one_count : (o : Option ℕ) → 0 ≡ breaks_in (filter_map (λ o. o) (o ∷ []))
    one_count None = refl
    one_count (Some n) = refl

    one_last : (o : Option ℕ) → o ≡ last (filter_map (λ o. o) (o ∷ []))
    one_last None = refl
    one_last (Some n) = refl

more_from : (s : Source) (lines : List Line) (l : Line) → lines_from s (lines ++ l ∷ []) ≡ lines_from s lines ++ lines_from s (l ∷ [])
more_from s lines l = filter-append (λ (l : Line). is_same s l.source) lines (l ∷ [])

from_own : (s : Source) (lines : List Line) (l : Line) → is_same s l.source ≡ true → lines_from s (lines ++ l ∷ []) ≡ lines_from s lines ++ l ∷ []
from_own s lines l e = more_from s lines l ∙ ap (λ (ls : List Line). lines_from s lines ++ ls) (cond-true (is_same s l.source) (l ∷ []) [] e)

from_other : (s : Source) (lines : List Line) (l : Line) → is_same s l.source ≡ false → lines_from s (lines ++ l ∷ []) ≡ lines_from s lines
from_other s lines l e = more_from s lines l ∙ (ap (λ (ls : List Line). lines_from s lines ++ ls) (cond-false (is_same s l.source) (l ∷ []) [] e) ∙ append-nil (lines_from s lines))

-- The row is that of its source's lines.
abbrev IsRowIn : List Line → Row → Type 0
IsRowIn lines r = IsRowOf (lines_from r.source lines) r

abbrev IsOther : Source → Row → Type 0
IsOther s r = is_same r.source s ≡ false

unchanged : (lines : List Line) (l : Line) (r : Row) → IsOther l.source r → IsRowIn lines r → IsRowIn (lines ++ l ∷ []) r
unchanged lines l r other h = subst (λ (own : List Line). IsRowOf own r) (sym (from_other r.source lines l other)) h

-- what comes behind a source is another
behind_is_other : (s : Source) (r : Row) → source_cmp s r.source ≡ Less → IsOther s r
behind_is_other s r e = is_same_where r.source s Greater (turned r.source s ∙ ap ordering_reverse e)

all_other : (s : Source) (rows : List Row) → All (λ r. source_cmp s r.source ≡ Less) rows → All (IsOther s) rows
all_other s rows h = all_from (IsOther s) rows (λ r m. behind_is_other s r (All-contains (λ r. source_cmp s r.source ≡ Less) rows r h m))

-- what comes behind a row that is of this source, or behind it
abbrev AreBehind : Source → List Row → Type 0
AreBehind s rows = All (λ later. source_cmp s later.source ≡ Less) rows

behind_equal : (s : Source) (r : Row) (rs : List Row) → source_cmp s r.source ≡ Equal → AreBehind r.source rs → AreBehind s rs
behind_equal s r rs e h = all_from (λ later. source_cmp s later.source ≡ Less) rs (λ x m. same_before s r.source x.source e (All-contains (λ later. source_cmp r.source later.source ≡ Less) rs x h m))

behind_less : (s : Source) (r : Row) (rs : List Row) → source_cmp s r.source ≡ Less → AreBehind r.source rs → AreBehind s rs
behind_less s r rs e h = all_from (λ later. source_cmp s later.source ≡ Less) rs (λ x m. before_both s r.source x.source e (All-contains (λ later. source_cmp r.source later.source ≡ Less) rs x h m))

module _ (lines : List Line) (l : Line) where
  -- each row is that of its lines
  each_with : (rows : List Row) → All (IsRowIn lines) rows → AreSorted rows → (All (IsOther l.source) rows → lines_from l.source lines ≡ []) → All (IsRowIn (lines ++ l ∷ [])) (with_line rows l)
  each_with [] each sorted new = All-cons (IsRowIn (lines ++ l ∷ [])) (first_row l) []
      (subst (λ (own : List Line). IsRowOf own (first_row l)) (sym (begun_row (new (All-nil (IsOther l.source))))) (row_of_one l)) (All-nil (IsRowIn (lines ++ l ∷ [])))
    where
      begun_row : lines_from l.source lines ≡ [] → lines_from l.source (lines ++ l ∷ []) ≡ l ∷ []
      begun_row none = from_own l.source lines l (is_same_where l.source l.source Equal (itself l.source)) ∙ ap (λ (ls : List Line). ls ++ l ∷ []) none
  each_with (r ∷ rs) each sorted new = go (source_cmp l.source r.source) refl (λ other. each_with rs (All-tail (IsRowIn lines) r rs each) sorted.1 (λ others. new (All-cons (IsOther l.source) r rs other others)))
    where
      kept : (rows : List Row) → All (IsRowIn lines) rows → All (IsOther l.source) rows → All (IsRowIn (lines ++ l ∷ [])) rows
      kept rows h others = all_from (IsRowIn (lines ++ l ∷ [])) rows (λ x m. unchanged lines l x (All-contains (IsOther l.source) rows x others m) (All-contains (IsRowIn lines) rows x h m))

      begun_row : lines_from l.source lines ≡ [] → lines_from l.source (lines ++ l ∷ []) ≡ l ∷ []
      begun_row none = from_own l.source lines l (is_same_where l.source l.source Equal (itself l.source)) ∙ ap (λ (ls : List Line). ls ++ l ∷ []) none

      go : (o : Ordering) → source_cmp l.source r.source ≡ o → (IsOther l.source r → All (IsRowIn (lines ++ l ∷ [])) (with_line rs l)) → All (IsRowIn (lines ++ l ∷ [])) (put_line o r rs l (with_line rs l))
      go Less e more =
          let all : AreBehind l.source (r ∷ rs) = All-cons (λ later. source_cmp l.source later.source ≡ Less) r rs e (behind_less l.source r rs e sorted.0) in
          let others : All (IsOther l.source) (r ∷ rs) = all_other l.source (r ∷ rs) all in
          All-cons (IsRowIn (lines ++ l ∷ [])) (first_row l) (r ∷ rs) (subst (λ (own : List Line). IsRowOf own (first_row l)) (sym (begun_row (new others))) (row_of_one l)) (kept (r ∷ rs) each others)
      go Equal e more =
          let same : is_same r.source l.source ≡ true = is_same_where r.source l.source Equal (turned r.source l.source ∙ ap ordering_reverse e) in
          All-cons (IsRowIn (lines ++ l ∷ [])) (one_line r l) rs
          (subst (λ (own : List Line). IsRowOf own (one_line r l)) (sym (from_own r.source lines l same)) (more_of_row (lines_from r.source lines) r l (All-head (IsRowIn lines) r rs each)))
          (kept rs (All-tail (IsRowIn lines) r rs each) (all_other l.source rs (behind_equal l.source r rs e sorted.0)))
      go Greater e more =
          let other : IsOther l.source r = is_same_where r.source l.source Less (turned r.source l.source ∙ ap ordering_reverse e) in
          All-cons (IsRowIn (lines ++ l ∷ [])) r (with_line rs l) (unchanged lines l r other (All-head (IsRowIn lines) r rs each)) (more other)

-- What holds of all sources of a table and of the line's holds of the table with the line.
all_with : (P : Source → Type 0) (l : Line) → P l.source → (rows : List Row) → All (λ r. P r.source) rows → All (λ r. P r.source) (with_line rows l)
all_with P l p [] h = All-cons (λ r. P r.source) (first_row l) [] p h
all_with P l p (r ∷ rs) h = go (source_cmp l.source r.source) (all_with P l p rs (All-tail (λ r. P r.source) r rs h))
  where
    go : (o : Ordering) → All (λ r. P r.source) (with_line rs l) → All (λ r. P r.source) (put_line o r rs l (with_line rs l))
    go Less more = All-cons (λ r. P r.source) (first_row l) (r ∷ rs) p h
    go Equal more = All-cons (λ r. P r.source) (one_line r l) rs (All-head (λ r. P r.source) r rs h) (All-tail (λ r. P r.source) r rs h)
    go Greater more = All-cons (λ r. P r.source) r (with_line rs l) (All-head (λ r. P r.source) r rs h) more

sorted_with : (l : Line) (rows : List Row) → AreSorted rows → AreSorted (with_line rows l)
sorted_with l [] h = (All-nil (λ later. source_cmp l.source later.source ≡ Less), tt)
sorted_with l (r ∷ rs) h = go (source_cmp l.source r.source) refl (sorted_with l rs h.1)
  where
    go : (o : Ordering) → source_cmp l.source r.source ≡ o → AreSorted (with_line rs l) → AreSorted (put_line o r rs l (with_line rs l))
    go Less e more = (All-cons (λ later. source_cmp l.source later.source ≡ Less) r rs e (behind_less l.source r rs e h.0), h)
    go Equal e more = h
    go Greater e more = (all_with (λ s. source_cmp r.source s ≡ Less) l (turned r.source l.source ∙ ap ordering_reverse e) rs h.0, more)

-- a source that has a row has one still
has_with : (l : Line) (rows : List Row) (s : Source) → HasRow rows s → HasRow (with_line rows l) s
has_with l [] s (r, m, e) = absurd (none_contained r m)
has_with l (r ∷ rs) s (x, m, e) = go (source_cmp l.source r.source) (λ k. has_with l rs s (x, k, e))
  where
    go : (o : Ordering) → (Contains rs x → HasRow (with_line rs l) s) → HasRow (put_line o r rs l (with_line rs l)) s
    go Less more = (x, contains_there (first_row l) (r ∷ rs) x m, e)
    go Equal more =
        ⊎_elim
        (λ (q : r ≡ x). (one_line r l, contains_here (one_line r l) rs, ap (λ (r : Row). r.source) q ∙ e))
        (λ (k : Contains rs x). (x, contains_there (one_line r l) rs x k, e))
        (contains_cases r rs x m)
    go Greater more =
        ⊎_elim
        (λ (q : r ≡ x). (r, contains_here r (with_line rs l), ap (λ (r : Row). r.source) q ∙ e))
        (λ (k : Contains rs x). let p = more k in (p.0, contains_there r (with_line rs l) p.0 p.1, p.2))
        (contains_cases r rs x m)

-- and the line's source has one
own_with : (l : Line) (rows : List Row) → HasRow (with_line rows l) l.source
own_with l [] = (first_row l, contains_here (first_row l) [], refl)
own_with l (r ∷ rs) = go (source_cmp l.source r.source) refl (own_with l rs)
  where
    go : (o : Ordering) → source_cmp l.source r.source ≡ o → HasRow (with_line rs l) l.source → HasRow (put_line o r rs l (with_line rs l)) l.source
    go Less e more = (first_row l, contains_here (first_row l) (r ∷ rs), refl)
    go Equal e more = (one_line r l, contains_here (one_line r l) rs, sym (one_where l.source r.source e))
    go Greater e more = (more.0, contains_there r (with_line rs l) more.0 more.1, more.2)

-- a source without a row has no line
no_lines : (lines : List Line) (rows : List Row) (s : Source) → All (λ l. HasRow rows l.source) lines → All (IsOther s) rows → lines_from s lines ≡ []
no_lines lines rows s every others = none_passes (λ (l : Line). is_same s l.source) lines (λ l m. go l (All-contains (λ l. HasRow rows l.source) lines l every m) (is_same s l.source) refl)
  where
    go : (l : Line) → HasRow rows l.source → (t : Bool) → is_same s l.source ≡ t → t ≡ false
    go l has false e = refl
    go l (r, m, q) true e =
        let same : r.source ≡ s = q ∙ sym (same_source s l.source e) in
        absurd (true≢false (sym (is_same_where s s Equal (itself s)) ∙ (ap (λ (r : Source). is_same r s) (sym same) ∙ All-contains (IsOther s) rows r others m)))

one_more_line : (lines : List Line) (rows : List Row) (l : Line) → AreRows lines rows → AreRows (lines ++ l ∷ []) (with_line rows l)
one_more_line lines rows l h = record {
  each = each_with lines l rows h.each h.sorted (no_lines lines rows l.source h.every);
  every = All-append (λ x. HasRow (with_line rows l) x.source) lines (l ∷ [])
      (all_from (λ x. HasRow (with_line rows l) x.source) lines (λ x m. has_with l rows x.source (All-contains (λ l. HasRow rows l.source) lines x h.every m)))
      (All-cons (λ x. HasRow (with_line rows l) x.source) l [] (own_with l rows) (All-nil (λ x. HasRow (with_line rows l) x.source)));
  sorted = sorted_with l rows h.sorted;
}

more_lines : (before : List Line) (rows : List Row) (lines : List Line) → AreRows before rows → AreRows (before ++ lines) (fold with_line rows lines)
more_lines before rows [] h = subst (λ (ls : List Line). AreRows ls rows) (sym (append-nil before)) h
more_lines before rows (l ∷ lines) h = subst (λ (ls : List Line). AreRows ls (fold with_line (with_line rows l) lines)) (append_assoc before (l ∷ []) lines)
    (more_lines (before ++ l ∷ []) (with_line rows l) lines (one_more_line before rows l h))

-- The fold over the lines gives their table.
pub are_rows : (lines : List Line) → AreRows lines (table_of lines)
are_rows lines = more_lines [] [] lines (record { each = All-nil (IsRowIn []); every = All-nil (λ (l : Line). HasRow [] l.source); sorted = tt })

-- Where the row of a source stands among the rows of a table, and what one more line makes of them.
use Rattle.std.proofs.Common.{◌≡◌, ◌⊎◌, ◌<◌, ◌≤◌, ◌+◌, ◌∙◌, ◌++◌, ℕ, zero, suc, List, [], ◌∷◌, length, unwrap_or, All, Some, None, refl, sym, ap, subst, arith, ⊎_elim, inl, inr, Ordering, Less, Equal, Greater, Result, Ok, Err, IsOk, is_ok, if◌then◌else◌}
use Rattle.std.specs.Prelude.{⊤}
use Rattle.std.specs.List.{insert, slice_set, slice_get, slice_index_or}
use Rattle.std.specs.Ordering.{ordering_reverse}
use Rattle.std.proofs.lemmas.Bool.{cases_lt}
use Rattle.std.proofs.lemmas.List.Elements.{All-cons, All-head, All-nil, All-tail}
use Rattle.std.proofs.lemmas.List.Sums.{fold-append}
use Rattle.std.proofs.lemmas.Option.{get_or_from_slice_get, slice_get_read, slice_get_within, same_Some, none-some}
use Rattle.vdr_durability.specs.Sources.{AreSorted, Line, Row, Source, first_row, one_line, put_line, source_cmp, with_line}
use Rattle.vdr_durability.proofs.SourceOrder.{before_both, one_where, turned}
use Rattle.vdr_durability.proofs.Tables.{are_rows}
use Rattle.vdr_sources.specs.Rows.{ComesBefore, ComesBehind, IsAt, IsGap, IsTable}

-- Sorted rows by their places.
sorted_at : (rows : List Row) → AreSorted rows → (i j : ℕ) (a b : Row) → i < j → slice_get rows i ≡ Some a → slice_get rows j ≡ Some b → source_cmp a.source b.source ≡ Less
sorted_at [] h i j a b lt p q = absurd (none-some a p)
sorted_at (r ∷ rs) h zero zero a b lt p q = absurd (omega (arith, lt))
sorted_at (r ∷ rs) h zero (suc j) a b lt p q =
    let at : source_cmp r.source (slice_index_or rs j b).source ≡ Less = h.0 j b (slice_get_within rs j b q) in
    let is : slice_index_or rs j b ≡ b = get_or_from_slice_get rs j b b q in
    sym (ap (λ (x : Row). source_cmp x.source b.source) (same_Some r a p)) ∙ (sym (ap (λ (x : Row). source_cmp r.source x.source) is) ∙ at)
sorted_at (r ∷ rs) h (suc i) zero a b lt p q = absurd (omega (arith, lt))
sorted_at (r ∷ rs) h (suc i) (suc j) a b lt p q = sorted_at rs h.1 i j a b (omega (arith, lt)) p q

-- A source that comes behind a row comes behind those before it.
pub behind_more : (s : Source) (rows : List Row) → AreSorted rows → (m : ℕ) (here : Row) → slice_get rows m ≡ Some here → source_cmp s here.source ≡ Greater
    → ComesBehind s (m + 1) rows
behind_more s rows sorted m here at more j row lt is = ⊎_elim same earlier cases
  where
    cases : (j ≡ m) ⊎ (j < m)
    cases = ⊎_elim (λ less. inr less) (λ most. inl (omega (arith, lt, most))) (cases_lt j m)

    same : j ≡ m → source_cmp s row.source ≡ Greater
    same e = ap (λ (x : Row). source_cmp s x.source) (same_Some row here (sym is ∙ (ap (slice_get rows) e ∙ at))) ∙ more

    earlier : j < m → source_cmp s row.source ≡ Greater
    earlier l =
        let before = sorted_at rows sorted j m row here l is at in
        let below : source_cmp here.source s ≡ Less = turned here.source s ∙ ap ordering_reverse more in
        turned s row.source ∙ ap ordering_reverse (before_both row.source here.source s before below)

-- One that is the row's own comes behind those before it.
pub behind_own : (s : Source) (rows : List Row) → AreSorted rows → (m : ℕ) (here : Row) → slice_get rows m ≡ Some here → source_cmp s here.source ≡ Equal → ComesBehind s m rows
behind_own s rows sorted m here at same j row lt is =
    turned s row.source
    ∙ ap ordering_reverse (ap (λ (x : Source). source_cmp row.source x) (one_where s here.source same) ∙ sorted_at rows sorted j m row here lt is at)

-- The source of the row at a place.
pub own_at : (s : Source) (rows : List Row) (m : ℕ) (here row : Row) (o : Ordering) → slice_get rows m ≡ Some here → source_cmp s here.source ≡ o → slice_get rows m ≡ Some row
    → source_cmp s row.source ≡ o
own_at s rows m here row o at is found = ap (λ (x : Row). source_cmp s x.source) (same_Some row here (sym found ∙ at)) ∙ is

step_of : (o : Ordering) (r : Row) (rs : List Row) (l : Line) → source_cmp l.source r.source ≡ o → with_line (r ∷ rs) l ≡ put_line o r rs l (with_line rs l)
step_of o r rs l e = ap (λ (o : Ordering). put_line o r rs l (with_line rs l)) e

later_behind : (s : Source) (r : Row) (rs : List Row) (i : ℕ) → ComesBehind s (suc i) (r ∷ rs) → ComesBehind s i rs
later_behind s r rs i h j row lt is = h (suc j) row (omega (arith, lt)) is

-- A line of a source that has a row.
pub put_more : (l : Line) (rows : List Row) (i : ℕ) (here : Row) → ComesBehind l.source i rows → slice_get rows i ≡ Some here → source_cmp l.source here.source ≡ Equal
    → with_line rows l ≡ slice_set rows i (one_line here l)
put_more l [] i here behind at same = absurd (none-some here at)
put_more l (r ∷ rs) zero here behind at same =
    let is = same_Some r here at in
    step_of Equal r rs l (ap (λ (x : Row). source_cmp l.source x.source) is ∙ same) ∙ ap (λ (x : Row). one_line x l ∷ rs) is
put_more l (r ∷ rs) (suc i) here behind at same =
    step_of Greater r rs l (behind zero r (omega arith) refl) ∙ ap (λ (xs : List Row). r ∷ xs) (put_more l rs i here (later_behind l.source r rs i behind) at same)

-- A line of a source that has none.
pub put_new : (l : Line) (rows : List Row) (i : ℕ) → i ≤ length rows → ComesBehind l.source i rows → ComesBefore l.source i rows → with_line rows l ≡ insert rows i (first_row l)
put_new l [] zero within behind before = refl
put_new l [] (suc i) within behind before = absurd (omega (arith, within))
put_new l (r ∷ rs) zero within behind before = step_of Less r rs l (before r refl)
put_new l (r ∷ rs) (suc i) within behind before =
    step_of Greater r rs l (behind zero r (omega arith) refl) ∙ ap (λ (xs : List Row). r ∷ xs) (put_new l rs i (omega (arith, within)) (later_behind l.source r rs i behind) before)

abbrev HasFew : ℕ → Row → Type 0
HasFew n r = r.lines ≤ n

more_few : (n : ℕ) (rows : List Row) → All (HasFew n) rows → All (HasFew (n + 1)) rows
more_few n rows h k d lt = let e = h k d lt in omega (arith, e)

few_with : (n : ℕ) (l : Line) (rows : List Row) → All (HasFew n) rows → All (HasFew (n + 1)) (with_line rows l)
few_with n l [] h = All-cons (HasFew (n + 1)) (first_row l) [] (omega arith) (All-nil (HasFew (n + 1)))
few_with n l (r ∷ rs) h = go (source_cmp l.source r.source) (few_with n l rs (All-tail (HasFew n) r rs h))
  where
    here : r.lines ≤ n
    here = All-head (HasFew n) r rs h

    go : (o : Ordering) → All (HasFew (n + 1)) (with_line rs l) → All (HasFew (n + 1)) (put_line o r rs l (with_line rs l))
    go Less more = All-cons (HasFew (n + 1)) (first_row l) (r ∷ rs) (omega arith) (more_few n (r ∷ rs) h)
    go Equal more = All-cons (HasFew (n + 1)) (one_line r l) rs (omega (arith, here)) (more_few n rs (All-tail (HasFew n) r rs h))
    go Greater more = All-cons (HasFew (n + 1)) r (with_line rs l) (omega (arith, here)) more

-- The rows of a table are sorted, and with one more line they are those of a table.
pub sorted_of : (n : ℕ) (rows : List Row) → IsTable n rows → AreSorted rows
sorted_of n rows t = subst AreSorted (sym t.table) (are_rows t.lines).sorted

pub table_with : (n : ℕ) (rows : List Row) (l : Line) → IsTable n rows → IsTable (n + 1) (with_line rows l)
table_with n rows l t = record {
  lines = t.lines ++ l ∷ [];
  table = ap (λ (rs : List Row). with_line rs l) t.table ∙ sym (fold-append with_line [] t.lines (l ∷ []));
  few = few_with n l rows t.few;
}

-- The rows with one more line, by the place of its source.
pub put_at : (l : Line) (rows : List Row) (i : ℕ) (here new : Row) → IsAt l.source rows i → here ≡ slice_index_or rows i here → new ≡ one_line here l
    → with_line rows l ≡ slice_set rows i new
put_at l rows i here new p at is =
    let found : slice_get rows i ≡ Some here = slice_get_read rows (length rows) i here refl p.within at in
    put_more l rows i here p.behind found (p.here here found) ∙ ap (λ (x : Row). slice_set rows i x) (sym is)

pub put_in : {E : Type 0} (l : Line) (rows new : List Row) (i : ℕ) (first : Row) (result : Result ⊤ E) → IsGap l.source rows i → IsOk result → first ≡ first_row l
    → new ≡ (if is_ok result then insert rows i first else rows) → with_line rows l ≡ new
put_in l rows new i first (Ok done) p ok is made = put_new l rows i p.within p.behind p.before ∙ (ap (λ (x : Row). insert rows i x) (sym is) ∙ sym made)
put_in l rows new i first (Err e) p ok is made = let none : ⊥ = cc in absurd none

pub table_more : (m n : ℕ) (rows : List Row) → m ≤ n → IsTable m rows → IsTable n rows
table_more m n rows more t = record { lines = t.lines; table = t.table; few = λ k d lt. let e = t.few k d lt in omega (arith, e, more) }

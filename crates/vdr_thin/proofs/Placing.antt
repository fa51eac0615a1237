-- What a reading makes of the rows of a table, by the place of its series.
use Rattle.std.proofs.Common.{◌≡◌, ◌∙◌, ℕ, subst, OnOk, OnErr, IfOk, List, length, [], pos, Option, None, Some, true, refl, sym, ap, Result, Ok, Err}
use Rattle.std.specs.List.{insert, slice_index_or, slice_set}
use Rattle.std.proofs.lemmas.Option.{slice_get_read}
use Rattle.vdr_alerts.specs.Rows.{AreOrdered, IsPlaced, row_at, with_row}
use Rattle.vdr_alerts.proofs.Ordered.{find_placed, ordered_with, put_placed}
use Rattle.vdr_thin.specs.Runs.{Reading, begun, ended_by, goes_on}
use Rattle.vdr_thin.specs.Tables.{Key, Row, ended_in, key_cmp, longest, row_behind, row_cmp, row_of, rows_behind, run_in}
use Rattle.vdr_thin.proofs.Orders.{row_total, same_key}

abbrev pub no_reading : Reading
no_reading = record { utc = 0; gaps = 0; valid = None; measure = pos 0; second = pos 0; text = [] }

-- Some row of a series.
abbrev pub row_from : Key → Row
row_from key = record { key = key; run = begun true no_reading }

module _ (step : ℕ) (rows : List Row) (key : Key) (r : Reading) (ordered : AreOrdered row_cmp rows) where
  -- The row at its place.
  found_at : (place : Result ℕ ℕ) → IsPlaced (λ row. key_cmp row.key key) rows place → row_at place rows ≡ row_of rows key
  found_at place p = find_placed row_cmp row_total rows (row_from key) ordered place p

  put_there : (place : Result ℕ ℕ) → IsPlaced (λ row. key_cmp row.key key) rows place → with_row place rows (row_behind step rows key r) ≡ rows_behind step rows key r
  put_there place p = put_placed row_cmp row_total rows (row_behind step rows key r) ordered place p

  pub still_ordered : AreOrdered row_cmp (rows_behind step rows key r)
  still_ordered = ordered_with row_cmp row_total rows (row_behind step rows key r) ordered

  -- Where the series has a row.
  pub is_row : (at : ℕ) (here : Row) → IsPlaced (λ row. key_cmp row.key key) rows (Ok at) → here ≡ slice_index_or rows at here → row_of rows key ≡ Some here
  is_row at here p is = sym (found_at (Ok at) p) ∙ slice_get_read rows (length rows) at here refl p.0 is

  pub is_key : (at : ℕ) (here : Row) → IsPlaced (λ row. key_cmp row.key key) rows (Ok at) → here ≡ slice_index_or rows at here → here.key ≡ key
  is_key at here p is = same_key here.key key (ap (λ (row : Row). key_cmp row.key key) is ∙ p.1 here)

  pub pushed_at : (at : ℕ) (here new : Row) → IsPlaced (λ row. key_cmp row.key key) rows (Ok at) → here ≡ slice_index_or rows at here
      → new.key ≡ here.key → new.run ≡ goes_on step (longest here.key.kind) (Some here.run) r → slice_set rows at new ≡ rows_behind step rows key r
  pushed_at at here new p is same run =
      let key_is : here.key ≡ key = is_key at here p is in
      let found : row_of rows key ≡ Some here = is_row at here p is in
      let run_is : new.run ≡ goes_on step (longest key.kind) (run_in (row_of rows key)) r =
      run ∙ (λ i. goes_on step (longest (key_is i).kind) (run_in (sym found i)) r) in
      let new_is : new ≡ row_behind step rows key r = (λ i. record { key = (same ∙ key_is) i; run = run_is i }) in
      ap (slice_set rows at) new_is ∙ put_there (Ok at) p

  pub put_new : (at : ℕ) (new : Row) → IsPlaced (λ row. key_cmp row.key key) rows (Err at) → new ≡ record { key = key; run = begun true r } → insert rows at new ≡ rows_behind step rows key r
  put_new at new p is =
      let none : row_of rows key ≡ None = sym (found_at (Err at) p) in
      let new_is : new ≡ row_behind step rows key r = is ∙ (λ i. record { key = key; run = goes_on step (longest key.kind) (run_in (sym none i)) r }) in
      ap (insert rows at) new_is ∙ put_there (Err at) p

  pub is_new : (at : ℕ) → IsPlaced (λ row. key_cmp row.key key) rows (Err at) → None ≡ ended_in step rows key r
  is_new at p = ap (λ (row : Option Row). ended_by step (longest key.kind) (run_in row) r) (found_at (Err at) p)

  pub ended_at : (at : ℕ) (here : Row) → IsPlaced (λ row. key_cmp row.key key) rows (Ok at) → here ≡ slice_index_or rows at here
      → ended_by step (longest here.key.kind) (Some here.run) r ≡ ended_in step rows key r
  ended_at at here p is = λ i. ended_by step (longest (is_key at here p is i).kind) (run_in (sym (is_row at here p is) i)) r

  -- In order it stays, whether the reading was taken or not.
  pub ordered_after : {A E : Type 0} (new : List Row) (result : Result A E) → OnOk result (new ≡ rows_behind step rows key r) → OnErr result (new ≡ rows) → AreOrdered row_cmp new
  ordered_after new (Ok ended) is same = subst (AreOrdered row_cmp) (sym is) still_ordered
  ordered_after new (Err none) is same = subst (AreOrdered row_cmp) (sym same) ordered

-- What holds where a call succeeds.
pub on_ok : {A E P Q : Type 0} (result : Result A E) → (P → Q) → OnOk result P → OnOk result Q
on_ok (Ok x) f h = f h
on_ok (Err e) f h = tt

pub if_ok : {A E : Type 0} (x y : A) (result : Result A E) → x ≡ y → IfOk result (λ given. given ≡ x) → IfOk result (λ given. given ≡ y)
if_ok x y (Ok given) same h = h ∙ same
if_ok x y (Err e) same h = tt

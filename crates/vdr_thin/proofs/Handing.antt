-- A table hands out the runs of each series' own readings.
use Rattle.std.proofs.Common.{◌≡◌, ◌∙◌, ◌++◌, ℕ, Bool, true, false, cond, List, [], ◌∷◌, map, filter, Option, None, Some, option_map, refl, sym, ap, Ordering, Less, Equal, Greater, is_eq}
use Rattle.std.specs.Prelude.{option_to_list}
use Rattle.std.specs.List.{AllByRecursion}
use Rattle.std.proofs.lemmas.Cmp.{tied_itself}
use Rattle.vdr_alerts.specs.Rows.{AreOrdered}
use Rattle.vdr_alerts.proofs.Ordered.{found_with}
use Rattle.vdr_thin.specs.Handed.{Told, handed_out, is_of, readings_of, row_with, runs_handed}
use Rattle.vdr_thin.specs.Runs.{Reading, Run, begun, ended_by, ends, goes_on, grown, is_missed, runs_from, runs_of}
use Rattle.vdr_thin.specs.Tables.{Key, Row, ended_in, key_cmp, longest, row_behind, row_cmp, row_of, rows_behind, run_in}
use Rattle.vdr_thin.proofs.Orders.{key_total, row_total, same_key}
use Rattle.vdr_thin.proofs.Placing.{row_from, still_ordered}

equal : (o : Ordering) → is_eq o ≡ true → o ≡ Equal
equal Less e = let none : ⊥ = cc in absurd none
equal Equal e = refl
equal Greater e = let none : ⊥ = cc in absurd none

-- Keys that count as one are one.
one_key : (key k : Key) → is_of key k ≡ true → k ≡ key
one_key key k e = same_key k key (equal (key_cmp k key) e)

abbrev of_key : Key → Row → Bool
of_key key row = is_of key row.key

-- Behind the row of a series stands no other one of it.
none_behind : (key : Key) (x : Row) (xs : List Row) → is_of key x.key ≡ true → AllByRecursion (λ later. row_cmp x later ≡ Less) xs → filter (of_key key) xs ≡ []
none_behind key x [] e h = refl
none_behind key x (y ∷ xs) e h = go (of_key key y) refl (none_behind key x xs e h.1)
  where
    go : (b : Bool) → of_key key y ≡ b → filter (of_key key) xs ≡ [] → cond b (y ∷ filter (of_key key) xs) (filter (of_key key) xs) ≡ []
    go true b rest =
        let same : y.key ≡ x.key = one_key key y.key b ∙ sym (one_key key x.key e) in
        let less : key_cmp x.key x.key ≡ Less = ap (key_cmp x.key) (sym same) ∙ h.0 in
        let tied : key_cmp x.key x.key ≡ Equal = tied_itself key_total x.key in
        let none : ⊥ = cc in absurd none
    go false b rest = rest

only_one : (key : Key) (rows : List Row) → AreOrdered row_cmp rows → filter (of_key key) rows ≡ option_to_list (row_of rows key)
only_one key [] h = refl
only_one key (x ∷ xs) h = go (of_key key x) refl (only_one key xs h.1)
  where
    go : (b : Bool) → of_key key x ≡ b → filter (of_key key) xs ≡ option_to_list (row_of xs key)
        → cond b (x ∷ filter (of_key key) xs) (filter (of_key key) xs) ≡ option_to_list (cond b (Some x) (row_of xs key))
    go true e rest = ap (λ (rows : List Row). x ∷ rows) (none_behind key x xs e h.0)
    go false e rest = rest

-- The runs of a series of which this one goes on, if one does.
abbrev runs_with : (step longest : ℕ) → Option Run → List Reading → List Run
runs_with step longest None rs = runs_of step longest rs
runs_with step longest (Some run) rs = runs_from step longest run rs

left_over : (step longest : ℕ) (row : Option Row) → map (λ (row : Row). row.run) (option_to_list row) ≡ runs_with step longest (run_in row) []
left_over step longest None = refl
left_over step longest (Some row) = refl

-- One more reading of the series.
own_step : (step longest : ℕ) (run : Option Run) (r : Reading) (rs : List Reading)
    → option_to_list (ended_by step longest run r) ++ runs_from step longest (goes_on step longest run r) rs ≡ runs_with step longest run (r ∷ rs)
own_step step longest None r rs = refl
own_step step longest (Some run) r rs = go (ends step longest run.last.reading r) (begun (is_missed run.last.reading r) r) (grown run r)
  where
    go : (b : Bool) (new more : Run) → option_to_list (cond b (Some run) None) ++ runs_from step longest (cond b new more) rs ≡ cond b (run ∷ runs_from step longest new rs) (runs_from step longest more rs)
    go true new more = refl
    go false new more = refl

module _ (key : Key) where
  runs_append : (a b : List Row) → runs_handed key (a ++ b) ≡ runs_handed key a ++ runs_handed key b
  runs_append [] b = refl
  runs_append (x ∷ a) b = go (of_key key x) (runs_append a b)
    where
      go : (t : Bool) → runs_handed key (a ++ b) ≡ runs_handed key a ++ runs_handed key b
          → map (λ (row : Row). row.run) (cond t (x ∷ filter (of_key key) (a ++ b)) (filter (of_key key) (a ++ b))) ≡ map (λ (row : Row). row.run) (cond t (x ∷ filter (of_key key) a) (filter (of_key key) a)) ++ runs_handed key b
      go true e = ap (λ (runs : List Run). x.run ∷ runs) e
      go false e = e

  own_ended : (k : Key) → is_of key k ≡ true → (o : Option Run) → runs_handed key (option_to_list (option_map (row_with k) o)) ≡ option_to_list o
  own_ended k e None = refl
  own_ended k e (Some run) = ap (λ (b : Bool). map (λ (row : Row). row.run) (cond b (row_with k run ∷ []) [])) e

  other_ended : (k : Key) → is_of key k ≡ false → (o : Option Run) → runs_handed key (option_to_list (option_map (row_with k) o)) ≡ []
  other_ended k e None = refl
  other_ended k e (Some run) = ap (λ (b : Bool). map (λ (row : Row). row.run) (cond b (row_with k run ∷ []) [])) e

module _ (step : ℕ) (key : Key) where
  handed : (rows : List Row) (told : List Told) → AreOrdered row_cmp rows
      → runs_handed key (handed_out step rows told) ≡ runs_with step (longest key.kind) (run_in (row_of rows key)) (readings_of key told)
  handed rows [] h = ap (λ (rows : List Row). map (λ (row : Row). row.run) rows) (only_one key rows h) ∙ left_over step (longest key.kind) (row_of rows key)
  handed rows (t ∷ told) h =
      runs_append key (option_to_list (option_map (row_with t.key) (ended_in step rows t.key t.reading))) (handed_out step (rows_behind step rows t.key t.reading) told)
      ∙ go (is_of key t.key) refl (handed (rows_behind step rows t.key t.reading) told (still_ordered step rows t.key t.reading h))
    where
      new : Row
      new = row_behind step rows t.key t.reading

      others : List Told
      others = filter (λ (t : Told). is_of key t.key) told

      go : (b : Bool) → is_of key t.key ≡ b
          → runs_handed key (handed_out step (rows_behind step rows t.key t.reading) told) ≡ runs_with step (longest key.kind) (run_in (row_of (rows_behind step rows t.key t.reading) key)) (readings_of key told)
          → runs_handed key (option_to_list (option_map (row_with t.key) (ended_in step rows t.key t.reading))) ++ runs_handed key (handed_out step (rows_behind step rows t.key t.reading) told)
          ≡ runs_with step (longest key.kind) (run_in (row_of rows key)) (map (λ (t : Told). t.reading) (cond b (t ∷ others) others))
      go true e later =
          let same : t.key ≡ key = one_key key t.key e in
          let found : row_of (rows_behind step rows t.key t.reading) key ≡ Some new =
          found_with row_cmp row_total rows new (row_from key) ∙ ap (λ (b : Bool). cond b (Some new) (row_of rows key)) e in
          (λ i. own_ended key t.key e (ended_in step rows t.key t.reading) i ++ (later ∙ ap (λ (row : Option Row). runs_with step (longest key.kind) (run_in row) (readings_of key told)) found) i)
          ∙ (λ i. option_to_list (ended_in step rows (same i) t.reading) ++ runs_from step (longest key.kind) (goes_on step (longest (same i).kind) (run_in (row_of rows (same i))) t.reading) (readings_of key told))
          ∙ own_step step (longest key.kind) (run_in (row_of rows key)) t.reading (readings_of key told)
      go false e later =
          let found : row_of (rows_behind step rows t.key t.reading) key ≡ row_of rows key =
          found_with row_cmp row_total rows new (row_from key) ∙ ap (λ (b : Bool). cond b (Some new) (row_of rows key)) e in
          (λ i. other_ended key t.key e (ended_in step rows t.key t.reading) i ++ (later ∙ ap (λ (row : Option Row). runs_with step (longest key.kind) (run_in row) (readings_of key told)) found) i)

  pub hands_out : (told : List Told) → runs_handed key (handed_out step [] told) ≡ runs_of step (longest key.kind) (readings_of key told)
  hands_out told = handed [] told tt

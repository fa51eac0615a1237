-- Rows of a table in order: where a row belongs, and the table with one more.
use Rattle.std.specs.Prelude.{◌≡◌, ◌<◌, ◌≤◌, ⊤, ℕ, List, [], ◌∷◌, find, length, slice_get, slice_set, Option, None, Result, Ok, Err}
use Rattle.std.specs.List.{AllByRecursion, AllWithin, HoldsAt, insert}
use Rattle.std.specs.Ordering.{is_eq}
use Rattle.std.specs.declared.cmp.Ordering.{Ordering}
use Rattle.std.specs.declared.cmp.Ordering.TheVariants.{Less, Equal, Greater}

-- A list in order with one more: in the place of the one that counts as the same, or between.
abbrev pub put_at : {A : Type 0} → Ordering → A → List A → A → List A → List A
put_at Less x xs new rest = x ∷ rest
put_at Equal x xs new rest = new ∷ xs
put_at Greater x xs new rest = new ∷ x ∷ xs

abbrev pub put : {A : Type 0} → (A → A → Ordering) → List A → A → List A
put cmp [] new = new ∷ []
put cmp (x ∷ xs) new = put_at (cmp x new) x xs new (put cmp xs new)

-- The row that counts as the same as this one.
abbrev pub same_row : {A : Type 0} → (A → A → Ordering) → List A → A → Option A
same_row cmp rows k = find (λ x. is_eq (cmp x k)) rows

-- Each comes before those behind it.
abbrev pub AreOrdered : {A : Type 0} → (A → A → Ordering) → List A → Type 0
AreOrdered cmp [] = ⊤
AreOrdered cmp (x ∷ xs) = AllByRecursion (λ later. cmp x later ≡ Less) xs × AreOrdered cmp xs

-- The place of a row in a list in order, by how each row stands to it: where it stands, or where it is to be put.
abbrev pub IsPlaced : {A : Type 0} → (A → Ordering) → List A → Result ℕ ℕ → Type 0
IsPlaced stands rows (Ok at) = (at < length rows) × HoldsAt (λ r. stands r ≡ Equal) rows at
IsPlaced stands rows (Err at) = (at ≤ length rows) × AllWithin (λ r. stands r ≡ Less) rows 0 at × AllWithin (λ r. stands r ≡ Greater) rows at (length rows)

abbrev pub row_at : {A : Type 0} → Result ℕ ℕ → List A → Option A
row_at (Ok at) rows = slice_get rows at
row_at (Err at) rows = None

abbrev pub with_row : {A : Type 0} → Result ℕ ℕ → List A → A → List A
with_row (Ok at) rows new = slice_set rows at new
with_row (Err at) rows new = insert rows at new

-- What fields say that are read as letters: each letter is one of its form, and no form of the table has a quote or a comma.
use Rattle.std.proofs.Common.{◌≡◌, ◌-◌, ◌%◌, ℕ, zero, suc, Bool, true, false, cond, ◌&&◌, ◌||◌, List, [], ◌∷◌, length, map, drop, get_or, bytes_eq, Option, Some, None, Result, Ok, Err, eqb, ltb, refl, subst}
use Rattle.std.specs.Prelude.{⊤}
use Rattle.std.specs.List.{list_all, list_any, range_with_len}
use Rattle.std.proofs.lemmas.Bool.{and_parts, eqb-true}
use Rattle.vdr_sentence.specs.Addresses.{address_of}
use Rattle.vdr_values.specs.Values.{Value, value_at, Number, Time, Date, Angle, Digits, Letter, Raw}
use Rattle.vdr_values.specs.Forms.{Form}
use Rattle.vdr_values.specs.Forms as kind
use Rattle.vdr_values.specs.Readings.{Reading, fields_of, read_as, read_by, reading, suits_field, with_values}
use Rattle.vdr_values.specs.Rows.{Row, form_at, forms_of, is_fit, wanted}
use Rattle.vdr_values.specs.Table.{row_for, row_named, table}
use Rattle.vdr_values.proofs.Along.{Values}
use Rattle.vdr_values.proofs.Legal.{AreSaid-read}
use Rattle.vdr_values.proofs.Lookups.{find-passes, named-good, sound-forms}
use Rattle.vdr_rows.proofs.Cells.{is_bare}

-- ---- forms

abbrev has_bare : Form → Bool
has_bare (kind.Letter letters) = list_all is_bare letters
has_bare _ = true

abbrev is_lettered : Row → Bool
is_lettered row = list_all has_bare row.fields && list_all has_bare row.group

all_lettered : list_all is_lettered table ≡ true
unfolding table
all_lettered = refl

get_lettered : (forms : List Form) (i : ℕ) → list_all has_bare forms ≡ true → has_bare (get_or forms i kind.Raw) ≡ true
get_lettered [] i h = refl
get_lettered (form ∷ forms) zero h = (and_parts _ _ h).0
get_lettered (form ∷ forms) (suc i) h = get_lettered forms i (and_parts _ _ h).1

form_lettered : (row : Row) (i : ℕ) → is_lettered row ≡ true → has_bare (form_at row i) ≡ true
form_lettered row i h = by_test (ltb i (length row.fields))
  where
    by_test : (t : Bool) → has_bare (cond t (get_or row.fields i kind.Raw) (get_or row.group ((i - length row.fields) % length row.group) kind.Raw)) ≡ true
    by_test true = get_lettered row.fields i (and_parts (list_all has_bare row.fields) (list_all has_bare row.group) h).0
    by_test false = get_lettered row.group ((i - length row.fields) % length row.group) (and_parts (list_all has_bare row.fields) (list_all has_bare row.group) h).1

forms_lettered : (row : Row) (places : List ℕ) → is_lettered row ≡ true → list_all has_bare (map (form_at row) places) ≡ true
forms_lettered row [] h = refl
forms_lettered row (i ∷ places) h = λ j. form_lettered row i h j && forms_lettered row places h j

-- ---- values

-- A letter may stand in a field without quotes.
abbrev pub is_told : Option Value → Bool
is_told (Some (Letter letter)) = is_bare letter
is_told _ = true

among : (letters : List ℕ) (letter : ℕ) → list_all is_bare letters ≡ true → list_any (λ b. eqb b letter) letters ≡ true → is_bare letter ≡ true
among [] letter all any = absurd (cc)
among (b ∷ letters) letter all any =
    let parts = and_parts (is_bare b) (list_all is_bare letters) all in by_test (eqb b letter) refl any parts.0 (among letters letter parts.1)
  where
    by_test : (t : Bool) → eqb b letter ≡ t → (t || list_any (λ c. eqb c letter) letters) ≡ true → is_bare b ≡ true
        → (list_any (λ c. eqb c letter) letters ≡ true → is_bare letter ≡ true) → is_bare letter ≡ true
    by_test true e any first more = subst (λ c. is_bare c ≡ true) (eqb-true b letter e) first
    by_test false e any first more = more any

told_letter : (form : Form) (letter : ℕ) → has_bare form ≡ true → suits_field form (Some (Letter letter)) ≡ true → is_bare letter ≡ true
told_letter (kind.Letter letters) letter bare suits = among letters letter bare suits
told_letter kind.Number letter bare suits = absurd (cc)
told_letter (kind.Whole greatest) letter bare suits = absurd (cc)
told_letter kind.Time letter bare suits = absurd (cc)
told_letter kind.Date letter bare suits = absurd (cc)
told_letter (kind.Angle digits greatest places) letter bare suits = absurd (cc)
told_letter (kind.Digits most least greatest) letter bare suits = absurd (cc)
told_letter kind.Raw letter bare suits = absurd (cc)

told_value : (form : Form) (value : Option Value) → has_bare form ≡ true → suits_field form value ≡ true → is_told value ≡ true
told_value form None bare suits = refl
told_value form (Some (Letter letter)) bare suits = told_letter form letter bare suits
told_value form (Some (Number negative n)) bare suits = refl
told_value form (Some (Time hour minute second n)) bare suits = refl
told_value form (Some (Date year month day)) bare suits = refl
told_value form (Some (Angle degrees n)) bare suits = refl
told_value form (Some (Digits n)) bare suits = refl
told_value form (Some (Raw bytes)) bare suits = refl

-- ---- readings

pub record IsTold (values : Values) : Type 0 where
  pub each : (index : ℕ) → is_told (value_at values index) ≡ true

abbrev pub AreTold : Result (Option Reading) ℕ → Type 0
AreTold (Ok (Some r)) = IsTold r.values
AreTold (Ok None) = ⊤
AreTold (Err bad) = ⊤

-- What a row of the table keeps.
record IsKept (row : Row) : Type 0 where
  fit : is_fit row ≡ true
  lettered : is_lettered row ≡ true

told_with : (row : Row) (fields : List (List ℕ)) → IsKept row → (read : Result Values ℕ) → read_by row fields ≡ read → AreTold (with_values row read)
told_with row fields kept (Err bad) e = tt
told_with row fields kept (Ok values) e =
    let places : List ℕ = range_with_len 0 (wanted row (length fields)) in
    let said = AreSaid-read (forms_of row (length fields)) 1 fields values (sound-forms row places kept.fit) e in
    record { each = λ index. told_value (get_or (forms_of row (length fields)) index kind.Raw) (value_at values index) (get_lettered (forms_of row (length fields)) index (forms_lettered row places kept.lettered)) (said.suits index) }

told_as : (o : Option Row) (fields : List (List ℕ)) → ((row : Row) → o ≡ Some row → IsKept row) → AreTold (read_as o fields)
told_as None fields kept = tt
told_as (Some row) fields kept = told_with row fields (kept row refl) (read_by row fields) refl

kept_named : (name : List ℕ) (row : Row) → row_named name ≡ Some row → IsKept row
kept_named name row h = record {
  fit = (and_parts (is_fit row) _ (named-good name row h).1).0;
  lettered = (find-passes (λ r. bytes_eq r.formatter name) is_lettered table row all_lettered h).1;
}

kept_for : (address : List ℕ) (row : Row) → row_for address ≡ Some row → IsKept row
kept_for address row h = by_test (eqb (get_or address 0 0) 80) h
  where
    by_test : (t : Bool) → cond t None (row_named (drop 2 address)) ≡ Some row → IsKept row
    by_test true h = absurd (cc)
    by_test false h = kept_named (drop 2 address) row h

pub read_told : (content : List ℕ) → AreTold (reading content)
unfolding reading
read_told content = told_as (row_for (address_of content)) (fields_of content) (kept_for (address_of content))

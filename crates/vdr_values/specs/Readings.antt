-- What a sentence reads as.
use Rattle.std.specs.Prelude.{ℕ, ◌+◌, Bool, true, List, [], ◌∷◌, length, drop, Option, Some, None, Result, Ok, Err}
use Rattle.vdr_sentence.specs.Addresses.{address_of}
use Rattle.vdr_sentence.specs.Fields.{fields}
use Rattle.vdr_values.specs.Values.{Value, Raw}
use Rattle.vdr_values.specs.Forms.{Form, field_value, suits}
use Rattle.vdr_values.specs.Rows.{Row, forms_of}
use Rattle.vdr_values.specs.Table.{row_for}

-- A row of the table, and the values of the fields of a sentence in their order, None of each that is empty.
pub record Reading : Type 0 where
  pub row : Row
  pub values : List (Option Value)

abbrev pub told : Row → List (Option Value) → Reading
told row values = record { row = row; values = values }

-- The fields of a text in which a comma stands before each.
abbrev pub fields_behind : List ℕ → List (List ℕ)
fields_behind [] = []
fields_behind (comma ∷ text) = fields text

-- The fields of a content, behind its address.
abbrev pub fields_of : (content : List ℕ) → List (List ℕ)
fields_of content = drop 1 (fields content)

-- A field's value before those of the fields behind it, or the first refusal.
abbrev pub then_values : (number : ℕ) → Option (Option Value) → Result (List (Option Value)) ℕ → Result (List (Option Value)) ℕ
then_values number None later = Err number
then_values number (Some value) (Ok values) = Ok (value ∷ values)
then_values number (Some value) (Err bad) = Err bad

-- The values of fields that have these forms, or the number of the first that is missing or outside its form, where the first has this number.
-- Surplus fields say nothing.
abbrev pub read_along : List Form → (number : ℕ) → (fields : List (List ℕ)) → Result (List (Option Value)) ℕ
read_along [] number fields = Ok []
read_along (form ∷ forms) number [] = Err number
read_along (form ∷ forms) number (field ∷ fields) = then_values number (field_value form field) (read_along forms (number + 1) fields)

abbrev pub with_values : Row → Result (List (Option Value)) ℕ → Result (Option Reading) ℕ
with_values row (Ok values) = Ok (Some (told row values))
with_values row (Err bad) = Err bad

-- What fields read as by a row.
abbrev pub read_by : Row → (fields : List (List ℕ)) → Result (List (Option Value)) ℕ
read_by row fields = read_along (forms_of row (length fields)) 1 fields

abbrev pub read_as : Option Row → (fields : List (List ℕ)) → Result (Option Reading) ℕ
read_as None fields = Ok None
read_as (Some row) fields = with_values row (read_by row fields)

-- What the content of a sentence reads as: nothing where its formatter is not in the table, else its reading or the first bad field.
unfoldable pub reading : (content : List ℕ) → Result (Option Reading) ℕ
reading content = read_as (row_for (address_of content)) (fields_of content)

abbrev pub raw_size : Option Value → ℕ
raw_size (Some (Raw bytes)) = length bytes
raw_size _ = 0

abbrev pub suits_field : Form → Option Value → Bool
suits_field form None = true
suits_field form (Some value) = suits form value

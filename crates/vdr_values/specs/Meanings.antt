-- What it means that a sentence was read or refused, by the numbers of its fields.
use Rattle.std.specs.Prelude.{◌≡◌, ℕ, ◌+◌, ◌-◌, ◌<◌, ◌≤◌, List, length, slice_index_or, Option, Some, None}
use Rattle.vdr_sentence.specs.Fields.{field}
use Rattle.vdr_values.specs.Values.{Value}
use Rattle.vdr_values.specs.Forms.{Form, Raw, field_value}

-- The field of this number is there, is in the form, and says this.
abbrev pub Says : (content : List ℕ) (number : ℕ) → Form → Option Value → Type 0
Says content number form value = (text : List ℕ) × (field number content ≡ Some text) × (field_value form text ≡ Some value)

-- The field of this number is missing or outside its form.
abbrev pub IsBadField : (content : List ℕ) (number : ℕ) → Form → Type 0
IsBadField content number form = (text : List ℕ) → field number content ≡ Some text → field_value form text ≡ None

-- The fields from the first on say these values, one for each form.
pub record AreRead (content : List ℕ) (forms : List Form) (values : List (Option Value)) : Type 0 where
  pub counted : length values ≡ length forms
  pub each : (k : ℕ) → k < length forms → Says content (k + 1) (slice_index_or forms k Raw) (slice_index_or values k None)

-- The field of this number is the first that is missing or outside its form.
pub record IsFirstBad (content : List ℕ) (forms : List Form) (number : ℕ) : Type 0 where
  pub counted : 1 ≤ number
  pub within : number ≤ length forms
  pub before : (k : ℕ) → k + 1 < number → (value : Option Value) × Says content (k + 1) (slice_index_or forms k Raw) value
  pub bad : IsBadField content number (slice_index_or forms (number - 1) Raw)

-- The rows of a page's data block (this project's profile): each is a JSON array on a line of its own, a name with fields behind it.
use Rattle.std.specs.Prelude.{ℕ, Bool, List, ◌++◌, codes, decimal, Option, Some, None, if◌then◌else◌}
use Rattle.std.specs.List.{flat_map}
use Rattle.vdr_page.specs.Strings.{inlined, quoted}

pub data Field : Type 0 where
  Number : (n : ℕ) → Field
  Text : (bytes : List ℕ) → Field
  Made : (list : List ℕ) → Field  -- a list, as it stands in a row
  Missing : Field

abbrev pub field_text : Field → List ℕ
field_text (Number n) = decimal n
field_text (Text bytes) = quoted bytes
field_text (Made list) = flat_map inlined list
field_text Missing = codes "null"

-- What stands behind the name.
abbrev pub fields_text : List Field → List ℕ
fields_text fields = flat_map (λ f. codes "," ++ field_text f) fields

-- `["name",field,field],` and LF.
unfoldable pub row : (name : List ℕ) → (fields : List Field) → List ℕ
row name fields = codes "[\"" ++ name ++ codes "\"" ++ fields_text fields ++ codes "],\n"

-- The same, where the first of its fields are made already, with their commas.
unfoldable pub keyed_row : (name key : List ℕ) → (fields : List Field) → List ℕ
keyed_row name key fields = codes "[\"" ++ name ++ codes "\"" ++ flat_map inlined key ++ fields_text fields ++ codes "],\n"

-- A number that may be missing.
abbrev pub number_or_null : Option ℕ → Field
number_or_null None = Missing
number_or_null (Some n) = Number n

-- 1 for yes, and 0 for no.
abbrev pub flag : Bool → Field
flag set = Number (if set then 1 else 0)

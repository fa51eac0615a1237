-- What a reading is printed as (this project's profile).
use Rattle.std.specs.Prelude.{ℕ, ◌-◌, ◌/◌, ◌%◌, Bool, not, ◌&&◌, ◌==◌, nat_le, List, [], ◌∷◌, ◌++◌, length, drop, Option, Some, None, Result, Ok, Err, codes, decimal, if◌then◌else◌}
use Rattle.std.specs.List.{flat_map}
use Rattle.vdr_entry.specs.Escape.{escaped}
use Rattle.vdr_entry.specs.Utc.{last_digits}
use Rattle.vdr_values.specs.Values.{Value, value_at, Number, Time, Date, Angle, Digits, Letter, Raw}
use Rattle.vdr_values.specs.Readings.{Reading}

abbrev pub unless_zero : (digit : ℕ) → List ℕ → List ℕ
unless_zero digit [] = if digit == 48 then [] else digit ∷ []
unless_zero digit (next ∷ digits) = digit ∷ next ∷ digits

-- Digits without the zeros at their end.
abbrev pub trimmed : List ℕ → List ℕ
trimmed [] = []
trimmed (digit ∷ digits) = unless_zero digit (trimmed digits)

-- A fraction in units of the last of so many places, with its point. Where there is none it is written as nothing.
unfoldable pub fraction_text : (places n : ℕ) → List ℕ
fraction_text places n = if n == 0 then [] else 46 ∷ trimmed (last_digits places n)

-- A number without leading zeros, and without trailing zeros of its fraction.
unfoldable pub millionths_text : ℕ → List ℕ
millionths_text millionths = decimal (millionths / 1_000_000) ++ fraction_text 6 (millionths % 1_000_000)

-- The same of billionths.
unfoldable pub billionths_text : ℕ → List ℕ
billionths_text billionths = decimal (billionths / 1_000_000_000) ++ fraction_text 9 (billionths % 1_000_000_000)

-- Zero has no sign.
abbrev pub sign_text : Bool → ℕ → List ℕ
sign_text negative millionths = if negative && not (millionths == 0) then codes "-" else []

abbrev pub value_text : Value → List ℕ
value_text (Number negative millionths) = sign_text negative millionths ++ millionths_text millionths
value_text (Time hour minute second millionths) =
    last_digits 2 hour ++ codes ":" ++ last_digits 2 minute ++ codes ":" ++ last_digits 2 second ++ fraction_text 6 millionths
value_text (Date year month day) = last_digits 4 year ++ codes "-" ++ last_digits 2 month ++ codes "-" ++ last_digits 2 day
value_text (Angle degrees billionths) = decimal degrees ++ codes " " ++ billionths_text billionths
value_text (Digits number) = decimal number
value_text (Letter letter) = letter ∷ []
value_text (Raw bytes) = escaped bytes

abbrev pub field_text : Option Value → List ℕ
field_text None = codes "null"
field_text (Some value) = value_text value

-- The index of the field that a byte of the table's text stands for, counted from 0: a digit from 1 on and, from the tenth field on, a capital letter.
abbrev pub index_in : (byte : ℕ) → Option ℕ
index_in b = if nat_le 49 b && nat_le b 57 then Some (b - 49) else if nat_le 65 b && nat_le b 90 then Some (b - 56) else None

abbrev pub piece_of : (byte : ℕ) → Option ℕ → List (Option Value) → List ℕ
piece_of byte None values = byte ∷ []
piece_of byte (Some index) values = field_text (value_at values index)

-- What a byte of the table's text is printed as.
abbrev pub piece : List (Option Value) → ℕ → List ℕ
piece values byte = piece_of byte (index_in byte) values

abbrev pub text_along : (text : List ℕ) → List (Option Value) → List ℕ
text_along text values = flat_map (piece values) text

-- The fields of groups, each behind a space.
abbrev pub group_text : List (Option Value) → List ℕ
group_text values = flat_map (λ value. 32 ∷ field_text value) values

unfoldable pub reading_text : Reading → List ℕ
reading_text r = text_along r.row.text r.values ++ group_text (drop (length r.row.fields) r.values)

-- The word for what a sentence reads as: the text of its reading, `-` for an unknown formatter, or the first bad field.
abbrev pub reading_word : Result (Option Reading) ℕ → List ℕ
reading_word (Ok (Some r)) = reading_text r
reading_word (Ok None) = codes "-"
reading_word (Err bad) = codes "field " ++ decimal bad

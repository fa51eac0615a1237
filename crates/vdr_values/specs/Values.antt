-- What a field of a sentence says (IEC 61162-1).
use Rattle.std.specs.Prelude.{ℕ, Bool, List, Option, Some, None, unwrap_or, slice_get}

pub data Value : Type 0 where
  Number : (negative : Bool) (millionths : ℕ) → Value
  Time : (hour minute second millionths : ℕ) → Value  -- the millionths are those of a second
  Date : (year month day : ℕ) → Value
  Angle : (degrees billionths : ℕ) → Value  -- the billionths are those of a minute
  Digits : (number : ℕ) → Value
  Letter : (letter : ℕ) → Value
  Raw : (bytes : List ℕ) → Value

-- What the field at this index says, counted from 0. None where it is empty.
abbrev pub value_at : List (Option Value) → (index : ℕ) → Option Value
value_at values index = unwrap_or (slice_get values index) None

-- What a field says, by what it is. None where it is empty, or something else.
abbrev pub number_in : Option Value → Option (Bool × ℕ)
number_in (Some (Number negative millionths)) = Some (negative, millionths)
number_in _ = None

abbrev pub digits_in : Option Value → Option ℕ
digits_in (Some (Digits n)) = Some n
digits_in _ = None

abbrev pub letter_in : Option Value → Option ℕ
letter_in (Some (Letter letter)) = Some letter
letter_in _ = None

abbrev pub raw_in : Option Value → Option (List ℕ)
raw_in (Some (Raw bytes)) = Some bytes
raw_in _ = None

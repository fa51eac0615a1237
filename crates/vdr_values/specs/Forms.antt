-- The forms of fields (IEC 61162-1), and what a field says that has a form.
use Rattle.std.specs.Prelude.{ℕ, ◌*◌, ◌%◌, ◌^◌, Bool, true, false, ◌&&◌, ◌==◌, nat_le, nat_lt, List, [], ◌∷◌, Option, Some, None, option_map, option_and_then, if◌then◌else◌}
use Rattle.std.specs.List.{list_any}
use Rattle.vdr_bytes.specs.Digits.{number}
use Rattle.vdr_values.specs.Values.{Value}
use Rattle.vdr_values.specs.Values as value
use Rattle.vdr_values.specs.Spellings.{signed_number, time_of_day, date, angle, single_letter}

pub data Form : Type 0 where
  Number : Form
  Whole : (greatest : ℕ) → Form  -- a whole number, from minus the greatest to the greatest
  Time : Form
  Date : Form
  Angle : (digits greatest places : ℕ) → Form  -- degrees, of so many digits and up to the greatest, and minutes with so many digits behind the point
  Digits : (most least greatest : ℕ) → Form  -- one to so many digits, which write a number from the least to the greatest
  Letter : (letters : List ℕ) → Form  -- one of these
  Raw : Form

-- The value that the text spells, whatever the range of the form.
abbrev pub spelled : Form → List ℕ → Option Value
spelled Number text = signed_number text
spelled (Whole greatest) text = signed_number text
spelled Time text = time_of_day text
spelled Date text = date text
spelled (Angle digits greatest places) text = angle digits places text
spelled (Digits most least greatest) text = option_map value.Digits (number most text)
spelled (Letter letters) text = single_letter text
spelled Raw text = Some (value.Raw text)

-- The value is in the range of the form. A number has at most nine digits before its point.
abbrev pub suits : Form → Value → Bool
suits Number (value.Number negative millionths) = nat_lt millionths (10 ^ 15)
suits (Whole greatest) (value.Number negative millionths) = (millionths % 1_000_000 == 0) && nat_le millionths (1_000_000 * greatest)
suits Time (value.Time hour minute second millionths) = nat_le hour 23 && nat_le minute 59 && nat_le second 60 && nat_lt millionths 1_000_000
suits Date (value.Date year month day) = nat_le 1 month && nat_le month 12 && nat_le 1 day && nat_le day 31
suits (Angle digits greatest places) (value.Angle degrees billionths) = nat_le degrees greatest && nat_lt billionths 60_000_000_000
suits (Digits most least greatest) (value.Digits number) = nat_le least number && nat_le number greatest
suits (Letter letters) (value.Letter letter) = list_any (λ b. b == letter) letters
suits Raw (value.Raw bytes) = true
suits _ _ = false

abbrev pub if_suits : Form → Value → Option Value
if_suits form v = if suits form v then Some v else None

-- The value that a text of this form spells, None where the text is outside of it.
abbrev pub form_value : Form → List ℕ → Option Value
form_value form text = option_and_then (if_suits form) (spelled form text)

-- What a field says that is in its form: its value, or none where the field is empty. None where the field is outside of its form.
abbrev pub field_value : Form → List ℕ → Option (Option Value)
field_value form [] = Some None
field_value form (b ∷ text) = option_map Some (form_value form (b ∷ text))

-- What each form of the table keeps, so that its values are of few digits.
abbrev pub is_sound : Form → Bool
is_sound (Whole greatest) = nat_lt greatest (10 ^ 9)
is_sound (Angle digits greatest places) = nat_le 1 digits && nat_le digits 3 && nat_le greatest 180 && nat_le places 9
is_sound (Digits most least greatest) = nat_le 1 most && nat_le most 9 && nat_lt greatest (10 ^ most)
is_sound _ = true

-- How the values of fields are spelled (IEC 61162-1). How many digits are accepted is this project's profile.
use Rattle.std.specs.Prelude.{ℕ, ◌+◌, ◌-◌, ◌*◌, Bool, true, false, ◌&&◌, ◌==◌, nat_le, List, [], ◌∷◌, ◌++◌, length, take, drop, slice_range, replicate, Option, Some, None, option_map, option_and_then, if◌then◌else◌}
use Rattle.std.specs.List.{before_first, after_first}
use Rattle.vdr_bytes.specs.Digits.{number}
use Rattle.vdr_values.specs.Values.{Value, Number, Time, Date, Angle, Letter}

abbrev pub is_point : ℕ → Bool
is_point b = b == 46

-- The fraction that none to so many digits behind a point write, in units of the last of these places.
abbrev pub fraction : (places : ℕ) → List ℕ → Option ℕ
fraction places digits = number places (digits ++ replicate (places - length digits) 48)

-- What stands before the point, and the fraction behind it. Where no point stands it is 0.
abbrev pub parted : (places : ℕ) → List ℕ → Option (List ℕ × ℕ)
parted places text = option_map (λ n. (before_first is_point text, n)) (fraction places (after_first is_point text))

-- One to nine digits, and optionally a point with none to six more: the millionths of this number.
abbrev pub magnitude : List ℕ → Option ℕ
magnitude text = option_and_then (λ (front, n). option_map (λ whole. 1_000_000 * whole + n) (number 9 front)) (parted 6 text)

-- A magnitude, and optionally a minus sign before it.
abbrev pub signed_number : List ℕ → Option Value
signed_number [] = None
signed_number (b ∷ text) = if b == 45 then option_map (Number true) (magnitude text) else option_map (Number false) (magnitude (b ∷ text))

abbrev pub time_from : (hour minute second : Option ℕ) → ℕ → Option Value
time_from (Some hour) (Some minute) (Some second) n = Some (Time hour minute second n)
time_from _ _ _ n = None

-- hhmmss, and optionally a point with none to six digits.
abbrev pub time_of_day : List ℕ → Option Value
time_of_day text = option_and_then (λ (front, n).
    if length front == 6 then time_from (number 2 (take 2 front)) (number 2 (slice_range front 2 4)) (number 2 (drop 4 front)) n else None) (parted 6 text)

-- Years 80 to 99 are those of the twentieth century (this project's profile).
abbrev pub full_year : ℕ → ℕ
full_year year = if nat_le 80 year then 1900 + year else 2000 + year

abbrev pub date_from : (day month year : Option ℕ) → Option Value
date_from (Some day) (Some month) (Some year) = Some (Date (full_year year) month day)
date_from _ _ _ = None

-- ddmmyy
abbrev pub date : List ℕ → Option Value
date text = if length text == 6 then date_from (number 2 (take 2 text)) (number 2 (slice_range text 2 4)) (number 2 (drop 4 text)) else None

abbrev pub angle_from : (degrees minutes : Option ℕ) → ℕ → Option Value
angle_from (Some degrees) (Some minutes) n = Some (Angle degrees (1_000_000_000 * minutes + n))
angle_from _ _ n = None

-- So many digits of degrees and two of minutes, and optionally a point with none to so many digits.
abbrev pub angle : (digits places : ℕ) → List ℕ → Option Value
angle digits places text = option_and_then (λ (front, n).
    if (length front == digits + 2) && nat_le (length text) (digits + 3 + places)
    then angle_from (number digits (take digits front)) (number 2 (drop digits front)) n else None) (parted 9 text)

abbrev pub single_letter : List ℕ → Option Value
single_letter (b ∷ []) = Some (Letter b)
single_letter _ = None

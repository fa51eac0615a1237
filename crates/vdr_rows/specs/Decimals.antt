-- Decimal numbers as a table of values has them: a sign, a whole part, and the hundred-millionths of a fraction.
use Rattle.std.specs.Prelude.{ℕ, zero, suc, ◌+◌, ◌-◌, ◌*◌, ◌^◌, ◌/◌, ◌%◌, ℤ, pos, int_lt, unsigned_abs, Bool, false, not, ◌&&◌, ◌==◌, List, [], ◌∷◌, ◌++◌, codes, decimal, slice_index, if◌then◌else◌}
use Rattle.vdr_values.specs.Texts.{fraction_text}
use Rattle.vdr_rows.specs.declared.decimal.Decimal.{Decimal}

abbrev pub of_count : ℕ → Decimal
of_count n = record { negative = false; whole = n; fraction = 0 }

abbrev pub of_tenths : ℕ → Decimal
of_tenths n = record { negative = false; whole = n / 10; fraction = 10_000_000 * (n % 10) }

abbrev pub of_millionths : (negative : Bool) → ℕ → Decimal
of_millionths negative n = record { negative = negative; whole = n / 1_000_000; fraction = 100 * (n % 1_000_000) }

abbrev pub of_hundred_millionths : (negative : Bool) → ℕ → Decimal
of_hundred_millionths negative n = record { negative = negative; whole = n / 100_000_000; fraction = n % 100_000_000 }

-- A fraction to the nearest whole number, a half to the greater one.
abbrev pub nearest : (n d : ℕ) → ℕ
nearest n d = (2 * n + d) / (2 * d)

-- The degrees of so many billionths of a minute, of which 600 are the hundred-millionth of a degree. Halves are rounded away from zero.
abbrev pub of_arc : (negative : Bool) → (billionths : ℕ) → Decimal
of_arc negative billionths = of_hundred_millionths negative (nearest billionths 600)

-- The same of ten-thousandths of a minute, negative below 0.
abbrev pub of_minutes : (ten_thousandths : ℤ) → Decimal
of_minutes n = of_arc (int_lt n (pos 0)) (100_000 * unsigned_abs n)

-- Zero has no sign.
abbrev pub sign_of : Decimal → List ℕ
sign_of d = if d.negative && not ((d.whole == 0) && (d.fraction == 0)) then codes "-" else []

-- No zeros stand before the whole part and behind the fraction, and no point without a fraction.
unfoldable pub decimal_text : Decimal → List ℕ
decimal_text d = sign_of d ++ decimal d.whole ++ fraction_text 8 d.fraction

-- ---- reading one

-- The digits behind the point, in units of the last of so many places.
abbrev pub behind_point : (places : ℕ) → List ℕ → ℕ
behind_point zero text = 0
behind_point (suc places) [] = 0
behind_point (suc places) (digit ∷ text) = (digit - 48) * 10 ^ places + behind_point places text

-- In hundred-millionths, what is said by digits behind those that say this whole number, and behind a point.
abbrev pub read_behind : (whole : ℕ) → List ℕ → ℕ
read_behind whole [] = 100_000_000 * whole
read_behind whole (b ∷ text) = if b == 46 then 100_000_000 * whole + behind_point 8 text else read_behind (10 * whole + (b - 48)) text

abbrev pub is_negative : List ℕ → Bool
is_negative text = slice_index text 0 == 45

-- The hundred-millionths that a decimal number says, without its sign.
abbrev pub hundred_millionths_in : List ℕ → ℕ
hundred_millionths_in [] = 0
hundred_millionths_in (b ∷ text) = if b == 45 then read_behind 0 text else read_behind 0 (b ∷ text)

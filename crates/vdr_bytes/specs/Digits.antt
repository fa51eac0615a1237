-- Numbers written in digits, as the fields of IEC 61162-1 and the TAG blocks of IEC 61162-450 have them.
use Rattle.std.specs.Prelude.{ℕ, ◌+◌, ◌-◌, ◌*◌, ◌/◌, ◌%◌, Bool, ◌&&◌, List, [], ◌∷◌, length, fold, Option, Some, None, option_map, option_and_then, is_some, nat_lt, nat_le, if◌then◌else◌}
use Rattle.std.specs.List.{list_all}

abbrev pub is_digit : ℕ → Bool
is_digit b = nat_le 48 b && nat_le b 57

-- The number that decimal digits write; leading zeros may stand before it.
abbrev pub decimal_value : List ℕ → ℕ
decimal_value digits = fold (λ n b. 10 * n + (b - 48)) 0 digits

-- One to this many decimal digits.
abbrev pub are_digits : (most : ℕ) → List ℕ → Bool
are_digits most bytes = nat_le 1 (length bytes) && nat_le (length bytes) most && list_all is_digit bytes

-- The number that one to this many decimal digits write; nothing else writes one.
abbrev pub number : (most : ℕ) → List ℕ → Option ℕ
number most bytes = if are_digits most bytes then Some (decimal_value bytes) else None

-- The value of a hexadecimal digit, in either case.
abbrev pub hex_value : ℕ → Option ℕ
hex_value b =
    if nat_le 48 b && nat_le b 57 then Some (b - 48)
    else if nat_le 65 b && nat_le b 70 then Some (b - 55)
    else if nat_le 97 b && nat_le b 102 then Some (b - 87)
    else None

abbrev pub is_hex_digit : ℕ → Bool
is_hex_digit b = is_some (hex_value b)

-- The byte that two hexadecimal digits write.
abbrev pub hex_byte : (high low : ℕ) → Option ℕ
hex_byte high low = option_and_then (λ h. option_map (λ l. 16 * h + l) (hex_value low)) (hex_value high)

-- The upper-case digit of a number below 16.
abbrev pub upper_digit : ℕ → ℕ
upper_digit n = if nat_lt n 10 then 48 + n else 55 + n

-- The two upper-case digits of a byte.
abbrev pub upper_digits : ℕ → List ℕ
upper_digits n = upper_digit (n / 16) ∷ upper_digit (n % 16) ∷ []

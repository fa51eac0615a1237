-- The characters of a sentence. IEC 61162-1 reserves some; which of them are refused is this project's profile.
use Rattle.std.specs.Prelude.{ℕ, Bool, true, false, not, ◌&&◌, ◌||◌, ◌==◌, nat_le, List, [], ◌∷◌, length}
use Rattle.vdr_bytes.specs.Digits.{is_hex_digit}

-- `$` begins a parametric sentence, `!` an encapsulation sentence.
abbrev pub is_start : ℕ → Bool
is_start b = (b == 36) || (b == 33)

-- `$`, `!`, `\` and `~` are refused, and `*` delimits the checksum alone.
abbrev pub is_refused : ℕ → Bool
is_refused b = (b == 36) || (b == 33) || (b == 92) || (b == 126) || (b == 42)

abbrev pub begins_with_code : List ℕ → Bool
begins_with_code (high ∷ low ∷ rest) = is_hex_digit high && is_hex_digit low
begins_with_code _ = false

-- The byte may stand in the content of a sentence with these behind it: `^` only before the two hexadecimal digits of a code.
abbrev pub is_character : ℕ → List ℕ → Bool
is_character b after = nat_le 0x20 b && nat_le b 0x7E && not (is_refused b) && (not (b == 94) || begins_with_code after)

-- In the body of a sentence, which is what stands between the start and the CR LF, a `*` may stand third from last.
abbrev pub is_body_character : ℕ → List ℕ → Bool
is_body_character b after = is_character b after || ((b == 42) && (length after == 2))

-- Each byte passes with the bytes behind it.
abbrev pub each_passes : (ℕ → List ℕ → Bool) → List ℕ → Bool
each_passes test [] = true
each_passes test (b ∷ after) = test b after && each_passes test after

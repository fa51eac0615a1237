-- Hexadecimal digits.
use Rattle.std.proofs.Common.{◌≡◌, ◌+◌, ◌*◌, ℕ, true, Option, Some, None, option_map, option_and_then, refl}
use Rattle.std.specs.Option.{is_some}
use Rattle.vdr_bytes.specs.Digits.{hex_byte, hex_value, is_hex_digit}

-- Both are digits where they write a byte.
pub record AreHexDigits (high low : ℕ) : Type 0 where
  pub first : is_hex_digit high ≡ true
  pub second : is_hex_digit low ≡ true

both_some : (high low : Option ℕ) (sum : ℕ) → option_and_then (λ h. option_map (λ l. 16 * h + l) low) high ≡ Some sum → (is_some high ≡ true) × (is_some low ≡ true)
both_some None low sum h = absurd (cc)
both_some (Some x) None sum h = absurd (cc)
both_some (Some x) (Some y) sum h = (refl, refl)

pub AreHexDigits-from_byte : (high low sum : ℕ) → hex_byte high low ≡ Some sum → AreHexDigits high low
AreHexDigits-from_byte high low sum h = let both = both_some (hex_value high) (hex_value low) sum h in record { first = both.0; second = both.1 }

-- The checksum of IEC 61162-1, which the TAG blocks of IEC 61162-450 have too.
use Rattle.std.specs.Prelude.{◌≡◌, ◌++◌, ℕ, ◌-◌, List, [], ◌∷◌, length, take, drop, fold, Option, Some, None, bit_xor, ◌==◌, if◌then◌else◌}
use Rattle.vdr_bytes.specs.Digits.{hex_byte}

-- The exclusive or of the bytes.
abbrev pub checksum : List ℕ → ℕ
checksum bytes = fold bit_xor 0 bytes

-- The bytes are the text and its checksum field: `*` and two hexadecimal digits, in either case, that write the sum.
pub record HasField (bytes text : List ℕ) (sum : ℕ) : Type 0 where
  pub high : ℕ
  pub low : ℕ
  pub spelled : bytes ≡ text ++ 42 ∷ high ∷ low ∷ []
  pub digits : hex_byte high low ≡ Some sum

-- What `*` and two digits write.
abbrev pub field_value : List ℕ → Option ℕ
field_value (star ∷ high ∷ low ∷ []) = if star == 42 then hex_byte high low else None
field_value _ = None

-- What the checksum field at the end of the bytes writes, None where they end with none.
abbrev pub written : List ℕ → Option ℕ
written bytes = field_value (drop (length bytes - 3) bytes)

-- What a checksum field at the end of the bytes is of.
abbrev pub covered : List ℕ → List ℕ
covered bytes = take (length bytes - 3) bytes

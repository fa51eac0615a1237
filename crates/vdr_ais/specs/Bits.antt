-- The bits of AIS messages (ITU-R M.1371), and the characters of a sentence that carry six of them each (IEC 61162-1, six-bit binary field
-- conversion).
use Rattle.std.specs.Prelude.{ℕ, ◌+◌, ◌-◌, ◌*◌, ◌/◌, ◌%◌, ◌^◌, ℤ, pos, ◌-ℤ◌, Bool, ◌&&◌, ◌||◌, nat_le, nat_lt, List, [], ◌∷◌, length, take, map, fold, flat_map, slice_range, if◌then◌else◌}

-- 0x30 to 0x57, or 0x60 to 0x77.
abbrev pub is_legal : (character : ℕ) → Bool
is_legal c = (nat_le 48 c && nat_le c 87) || (nat_le 96 c && nat_le c 119)

-- The number from 0 to 63 that a character stands for: its code less 48, and less 8 more where that is above 40.
abbrev pub six : (character : ℕ) → ℕ
six c = if nat_lt 40 (c - 48) then c - 56 else c - 48

-- A message: numbers of six bits, the last of which ends with so many bits that fill it up.
pub record Message : Type 0 where
  pub sixes : List ℕ
  pub fill : ℕ

-- Six bits, the highest first.
abbrev pub six_bits : ℕ → List ℕ
six_bits n = map (λ place. n / place % 2) (32 ∷ 16 ∷ 8 ∷ 4 ∷ 2 ∷ 1 ∷ [])

-- The bits of a message.
unfoldable pub bits_of : Message → List ℕ
bits_of m = take (6 * length m.sixes - m.fill) (flat_map six_bits m.sixes)

-- The number that bits write, the highest first.
abbrev pub number_of : List ℕ → ℕ
number_of bits = fold (λ n b. 2 * n + b) 0 bits

-- The number that the bits from the first to the last write, counted from 0.
unfoldable pub field : (first last : ℕ) → List ℕ → ℕ
field first last bits = number_of (slice_range bits first (last + 1))

-- The same in two's complement.
abbrev pub signed : (half n : ℕ) → ℤ
signed half n = if nat_lt n half then pos n else pos n -ℤ pos (2 * half)

abbrev pub signed_field : (first last : ℕ) → List ℕ → ℤ
signed_field first last bits = signed (2 ^ (last - first)) (field first last bits)

-- The same in units that are so many times greater.
abbrev pub scaled_field : (times first last : ℕ) → List ℕ → ℤ
scaled_field times first last bits = signed (times * 2 ^ (last - first)) (times * field first last bits)

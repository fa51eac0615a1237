-- Little-endian numbers, and writes into bytes. Opaque, since a proof speaks of a number and never of its single bytes.
use Rattle.std.specs.Prelude.{◌≡◌, ℕ, ◌+◌, List, ◌++◌, length, take, drop}
use Rattle.std.specs.List.{flat_map}
use Rattle.std.specs.Int.{w16, w32, w64, to_le_bytes, from_le_bytes}

-- A number as two, four and eight bytes.
unfoldable pub le_u16 : ℕ → List ℕ
le_u16 n = to_le_bytes w16 n

unfoldable pub le_u32 : ℕ → List ℕ
le_u32 n = to_le_bytes w32 n

unfoldable pub le_u64 : ℕ → List ℕ
le_u64 n = to_le_bytes w64 n

-- Numbers of eight bytes, one after another.
abbrev pub le_u64s : List ℕ → List ℕ
le_u64s = flat_map le_u64

-- The number that the two, four and eight bytes from an offset on spell.
unfoldable pub u16_at : ℕ → List ℕ → ℕ
u16_at at bytes = from_le_bytes w16 (take 2 (drop at bytes))

unfoldable pub u32_at : ℕ → List ℕ → ℕ
u32_at at bytes = from_le_bytes w32 (take 4 (drop at bytes))

unfoldable pub u64_at : ℕ → List ℕ → ℕ
u64_at at bytes = from_le_bytes w64 (take 8 (drop at bytes))

-- The new list is the old one with these bytes written over what stood at an offset.
pub record Puts (old new : List ℕ) (at : ℕ) (bytes : List ℕ) : Type 0 where
  pub is : new ≡ take at old ++ bytes ++ drop (at + length bytes) old

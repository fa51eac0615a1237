-- Numbers in either order of bytes. Opaque, since a proof speaks of a number and never of its single bytes.
use Rattle.std.specs.Prelude.{ℕ, Bool, List, take, drop, if◌then◌else◌}
use Rattle.std.specs.Int.{w16, w32, w64, from_le_bytes, from_be_bytes}

-- the number of two, four and eight bytes from an offset on, the most significant first or last
unfoldable pub u16_in : (big : Bool) → (at : ℕ) → List ℕ → ℕ
u16_in big at bytes = if big then from_be_bytes w16 (take 2 (drop at bytes)) else from_le_bytes w16 (take 2 (drop at bytes))

unfoldable pub u32_in : (big : Bool) → (at : ℕ) → List ℕ → ℕ
u32_in big at bytes = if big then from_be_bytes w32 (take 4 (drop at bytes)) else from_le_bytes w32 (take 4 (drop at bytes))

unfoldable pub u64_in : (big : Bool) → (at : ℕ) → List ℕ → ℕ
u64_in big at bytes = if big then from_be_bytes w64 (take 8 (drop at bytes)) else from_le_bytes w64 (take 8 (drop at bytes))

-- Gates. What stands behind a gate counts exactly while the gate is open (this project's profile).
use Rattle.std.specs.Prelude.{◌≡◌, ℕ, List, slice_get, Some}

-- The byte of an open gate. Every other byte is a closed one.
abbrev pub open_gate : ℕ
open_gate = 0xA5

-- The byte that closes a gate.
abbrev pub closed_gate : ℕ
closed_gate = 0

-- The gate at this offset is open. Behind the last byte there is none.
abbrev pub IsOpenAt : List ℕ → ℕ → Type 0
IsOpenAt bytes at = slice_get bytes at ≡ Some open_gate

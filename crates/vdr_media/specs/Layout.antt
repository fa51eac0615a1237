-- Where things stand on a medium, version 1 (this project's profile).
use Rattle.std.specs.Prelude.{ℕ, List, ◌∷◌, ◌++◌, codes}
use Rattle.vdr_bytes.specs.Numbers.{le_u32, le_u64}
use Rattle.vdr_segment.specs.Gates.{IsOpenAt}

-- The gate at this offset is closed.
abbrev pub IsClosedAt : List ℕ → ℕ → Type 0
IsClosedAt bytes at = IsOpenAt bytes at → ⊥

-- The superblock stands first, and its gate is byte 0 of the medium.
-- Then come 32 incident slots of 256 bytes, each with its gate first.
abbrev pub incidents_from : ℕ
incidents_from = 4096

abbrev pub incident_size : ℕ
incident_size = 256

abbrev pub incident_count : ℕ
incident_count = 32

-- Then the length of the configuration's text, in four bytes, and the text.
abbrev pub text_from : ℕ
text_from = 12288

-- Then segments, in slots of one size, from `slots_from` on. Each has its gate first.

-- The bytes 1 to 22 of a superblock: the mark, the version, the kind of medium (0 is the capsule, 1 the long-term medium), and
-- the sizes of the medium and of a segment, and the number of slots. What stands behind them is unread.
abbrev pub superblock_bytes : (kind size segment slots : ℕ) → List ℕ
superblock_bytes kind size segment slots = codes "VDRM" ++ (1 ∷ kind ∷ le_u64 size) ++ le_u32 segment ++ le_u32 slots

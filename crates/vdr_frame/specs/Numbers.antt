-- Numbers in the headers of packets, which are big-endian.
use Rattle.std.specs.Prelude.{ℕ, ◌+◌, ◌*◌, List, slice_index}

abbrev pub u16_at : List ℕ → ℕ → ℕ
u16_at bytes at = 256 * slice_index bytes at + slice_index bytes (at + 1)

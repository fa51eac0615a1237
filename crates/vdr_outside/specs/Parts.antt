-- A part of a medium, such as a segment or a slot.
use Rattle.std.specs.Prelude.{ℕ, ◌+◌, ◌*◌, ◌<◌, List, length, get_or, take, drop}

-- So many bytes from a position on.
abbrev pub part : List ℕ → ℕ → ℕ → List ℕ
part bytes from n = take n (drop from bytes)

-- A medium is slots of one size from a base on, and each of them is what the list says.
pub record Slots {S : Type 0} (Is : List ℕ → S → Type 0) (base size : ℕ) (slots : List S) (bytes : List ℕ) : Type 0 where
  pub each : (j : ℕ) (d : S) → j < length slots → Is (part bytes (base + j * size) size) (get_or slots j d)

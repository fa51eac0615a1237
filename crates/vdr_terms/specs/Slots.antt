-- Where the slots of a medium stand (this project's profile).
use Rattle.std.specs.Prelude.{ℕ, ◌-◌, ◌/◌, min}

-- Where the first slot begins.
abbrev pub slots_from : ℕ
slots_from = 32768

-- The slots of a medium of so many bytes.
abbrev pub slot_count : (segment size : ℕ) → ℕ
slot_count segment size = min 1000000 ((size - slots_from) / segment)

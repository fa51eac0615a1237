-- Bytes in printed text (this project's profile).
use Rattle.std.specs.Prelude.{ℕ, ◌+◌, ◌/◌, ◌%◌, Bool, not, ◌&&◌, ◌==◌, nat_le, List, [], ◌∷◌, if◌then◌else◌}
use Rattle.std.specs.List.{flat_map}

-- A printable ASCII character that begins no escape stands for itself.
abbrev pub is_plain : ℕ → Bool
is_plain b = nat_le 0x20 b && nat_le b 0x7E && not (b == 60)

-- 0 to 9 and a to f.
abbrev pub hex_digit : ℕ → ℕ
hex_digit n = if nat_le n 9 then 48 + n else 87 + n

-- Any other byte is written as `<hh>`.
abbrev pub escaped_byte : ℕ → List ℕ
escaped_byte b = if is_plain b then b ∷ [] else 60 ∷ hex_digit (b / 16) ∷ hex_digit (b % 16) ∷ 62 ∷ []

abbrev pub escaped : List ℕ → List ℕ
escaped = flat_map escaped_byte

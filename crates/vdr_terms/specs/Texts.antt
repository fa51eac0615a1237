-- Texts of ASCII characters.
use Rattle.std.specs.Prelude.{ℕ, Bool, ◌&&◌, nat_le, List, length}
use Rattle.std.specs.List.{list_all}

-- Characters that are seen: 0x21 to 0x7E.
abbrev pub are_graphic : List ℕ → Bool
are_graphic text = list_all (λ b. nat_le 0x21 b && nat_le b 0x7E) text

-- These and spaces.
abbrev pub are_printable : List ℕ → Bool
are_printable text = list_all (λ b. nat_le 0x20 b && nat_le b 0x7E) text

-- A label of an incident save has 1 to 64 printable characters (this project's profile).
abbrev pub is_label : List ℕ → Bool
is_label label = nat_le 1 (length label) && (nat_le (length label) 64 && are_printable label)

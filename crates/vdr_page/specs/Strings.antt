-- The strings of a page's data block (JSON, RFC 8259; which bytes are escaped is this project's profile).
use Rattle.std.specs.Prelude.{ℕ, ◌+◌, ◌/◌, ◌%◌, Bool, not, ◌&&◌, ◌||◌, ◌==◌, nat_le, nat_lt, List, [], ◌∷◌, ◌++◌, codes, if◌then◌else◌}
use Rattle.std.specs.List.{flat_map}

-- A byte that stands for itself: 0x20 to 0x7E but `"`, `&`, `<`, `>` and `\`. So no byte of a string ends it, and none is markup.
abbrev pub is_plain : ℕ → Bool
is_plain byte = nat_le 32 byte && nat_le byte 126 && not (byte == 34) && not (byte == 38) && not (byte == 60) && not (byte == 62) && not (byte == 92)

-- A hexadecimal digit, of 0 to 15, in lower case.
abbrev pub hex_digit : ℕ → ℕ
hex_digit n = if nat_lt n 10 then 48 + n else 87 + n

-- A byte of a string: as itself, or as `\u00` and two digits.
unfoldable pub escaped : ℕ → List ℕ
escaped byte = if is_plain byte then byte ∷ [] else codes "\\u00" ++ hex_digit (byte / 16 % 16) ∷ hex_digit (byte % 16) ∷ []

-- The string of some bytes.
abbrev pub quoted : List ℕ → List ℕ
quoted bytes = codes "\"" ++ flat_map escaped bytes ++ codes "\""

-- A byte of a text that is made of fields already, as they stand in a row: none is another one there.
unfoldable pub inlined : ℕ → List ℕ
inlined byte = if is_plain byte || byte == 34 || byte == 92 then byte ∷ [] else escaped byte

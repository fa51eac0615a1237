-- The texts of a channel (this project's profile; a formatter as IEC 61162-1 has it, a source as IEC 61162-450 does).
use Rattle.std.specs.Prelude.{ℕ, ◌==◌, ◌&&◌, ◌||◌, Bool, not, List, length, nat_le, bytes_eq, codes}
use Rattle.std.specs.List.{list_all}
use Rattle.vdr_bytes.specs.Digits.{is_digit}

abbrev pub is_capital : ℕ → Bool
is_capital b = nat_le 65 b && nat_le b 90

abbrev pub is_small : ℕ → Bool
is_small b = nat_le 97 b && nat_le b 122

abbrev pub is_name_byte : ℕ → Bool
is_name_byte b = is_small b || is_digit b || (b == 95)

abbrev pub is_formatter_byte : ℕ → Bool
is_formatter_byte b = is_capital b || is_digit b

abbrev pub is_source_byte : ℕ → Bool
is_source_byte b = nat_le 0x21 b && nat_le b 0x7E

-- 1 to 32 lower-case letters, digits and `_`, but not `all`, which asks for every record.
abbrev pub is_channel_name : List ℕ → Bool
is_channel_name s = nat_le 1 (length s) && nat_le (length s) 32 && list_all is_name_byte s && not (bytes_eq s (codes "all"))

-- Three capital letters or digits.
abbrev pub is_formatter : List ℕ → Bool
is_formatter s = (length s == 3) && list_all is_formatter_byte s

-- 1 to 15 bytes of 0x21 to 0x7E.
abbrev pub is_source : List ℕ → Bool
is_source s = nat_le 1 (length s) && nat_le (length s) 15 && list_all is_source_byte s

-- The address of a sentence (IEC 61162-1).
use Rattle.std.specs.Prelude.{ℕ, Bool, ◌&&◌, ◌||◌, ◌==◌, nat_le, List, length, slice_index, if◌then◌else◌}
use Rattle.std.specs.List.{list_all, before_first}

-- What stands before the first comma, the `*` of the checksum or the end.
abbrev pub address_of : List ℕ → List ℕ
address_of text = before_first (λ b. (b == 44) || (b == 42)) text

abbrev pub is_capital_or_digit : ℕ → Bool
is_capital_or_digit b = (nat_le 65 b && nat_le b 90) || (nat_le 48 b && nat_le b 57)

-- `P` and at least three capital letters or digits make a proprietary address. Five that do not begin with `P` are talker and formatter.
abbrev pub is_address : List ℕ → Bool
is_address address = list_all is_capital_or_digit address && (if slice_index address 0 == 80 then nat_le 4 (length address) else length address == 5)

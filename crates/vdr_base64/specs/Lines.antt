-- Bytes as lines of base64 (this project's profile). Base64: RFC 4648, section 4, with padding.
use Rattle.std.specs.Prelude.{ℕ, zero, suc, ◌*◌, ◌/◌, List, [], ◌∷◌, ◌++◌, take, drop, length, codes}
use Rattle.std.specs.List.{flat_map}
use Rattle.base64.specs.Engines.{standard}
use Rattle.base64.specs.GeneralPurpose.{encode_of}

-- The first n pieces of bytes, of 4,095 bytes each: the most below 4,097 whose base64 has no padding.
abbrev pub pieces_to : (n : ℕ) → List ℕ → List (List ℕ)
pieces_to zero bytes = []
pieces_to (suc n) bytes = take 4095 bytes ∷ pieces_to n (drop 4095 bytes)

-- All that are whole, and what stands behind them.
unfoldable pub whole_pieces : List ℕ → List (List ℕ)
whole_pieces bytes = pieces_to (length bytes / 4095) bytes

unfoldable pub left_over : List ℕ → List ℕ
left_over bytes = drop (length bytes / 4095 * 4095) bytes

abbrev pub last_piece : List ℕ → List (List ℕ)
last_piece [] = []
last_piece (b ∷ bs) = (b ∷ bs) ∷ []

-- The pieces of bytes: the last one may be shorter.
abbrev pub pieces : List ℕ → List (List ℕ)
pieces bytes = whole_pieces bytes ++ last_piece (left_over bytes)

-- A piece has a line: a plus sign, its base64, and LF.
abbrev pub line_of : (piece : List ℕ) → List ℕ
line_of piece = codes "+" ++ encode_of standard piece ++ codes "\n"

abbrev pub whole_lines : List ℕ → List ℕ
whole_lines bytes = flat_map line_of (whole_pieces bytes)

abbrev pub last_line : (rest : List ℕ) → List ℕ
last_line rest = flat_map line_of (last_piece rest)

-- The lines of bytes.
abbrev pub lines_of : List ℕ → List ℕ
lines_of bytes = flat_map line_of (pieces bytes)

-- The lines of a sentence datagram (IEC 61162-450): the bytes behind the token, cut behind each CR LF.
use Rattle.std.specs.Prelude.{◌≡◌, ◌<◌, ◌++◌, ℕ, Bool, false, ◌&&◌, ◌==◌, List, [], ◌∷◌, length, if◌then◌else◌}
use Rattle.std.specs.List.{concat}

-- CR LF stands at the end of the line.
abbrev pub IsClosed : List ℕ → Type 0
IsClosed line = (text : List ℕ) × (line ≡ text ++ 13 ∷ 10 ∷ [])

-- CR LF stands in the line nowhere but at its end.
abbrev pub HoldsNoOther : List ℕ → Type 0
HoldsNoOther line = (before after : List ℕ) → line ≡ before ++ 13 ∷ 10 ∷ after → after ≡ []

-- Each line ends with CR LF but the last, which is not empty. None holds another.
abbrev pub AreLines : List (List ℕ) → Type 0
AreLines [] = Unit {0}
AreLines (last ∷ []) = (0 < length last) × HoldsNoOther last
AreLines (line ∷ next ∷ lines) = IsClosed line × HoldsNoOther line × AreLines (next ∷ lines)

-- The bytes are these lines, one behind the other.
pub record IsCutting (bytes : List ℕ) (lines : List (List ℕ)) : Type 0 where
  pub joined : concat lines ≡ bytes
  pub parts : AreLines lines

-- A line that is not empty, and the lines behind it.
abbrev pub and_lines : (line : List ℕ) → List (List ℕ) → List (List ℕ)
and_lines [] lines = lines
and_lines (b ∷ line) lines = (b ∷ line) ∷ lines

-- The bytes up to the next CR LF and with it, and the lines behind them. A CR may stand before the bytes.
abbrev pub with_byte : (ends : Bool) → ℕ → List ℕ × List (List ℕ) → List ℕ × List (List ℕ)
with_byte ends b later = if ends then (b ∷ [], and_lines later.0 later.1) else (b ∷ later.0, later.1)

abbrev pub cut_behind : (cr : Bool) → List ℕ → List ℕ × List (List ℕ)
cut_behind cr [] = ([], [])
cut_behind cr (b ∷ bytes) = with_byte (cr && b == 10) b (cut_behind (b == 13) bytes)

-- The lines of the bytes, computed.
unfoldable pub cut : List ℕ → List (List ℕ)
cut bytes = and_lines (cut_behind false bytes).0 (cut_behind false bytes).1

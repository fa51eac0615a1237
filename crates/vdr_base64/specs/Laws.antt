-- What holds of lines of base64.
use Rattle.std.specs.Prelude.{◌≡◌, ℕ, List, Ok}
use Rattle.std.specs.List.{flat_map}
use Rattle.base64.specs.Engines.{standard}
use Rattle.base64.specs.GeneralPurpose.{IsBytes, decode_of, encode_of}
use Rattle.vdr_terms.specs.Records.{Record}
use Rattle.vdr_visit.specs.Prints.{whole_text}
use Rattle.vdr_base64.specs.Lines.{lines_of, pieces}
use Rattle.vdr_base64.specs.Printing.{last_lines, line_at}

-- The pieces joined are the bytes, and their base64 joined is that of the bytes, which decodes to them.
abbrev pub LinesAreRead : Type 0
LinesAreRead = (bytes : List ℕ) → (flat_map (λ piece. piece) (pieces bytes) ≡ bytes) × (flat_map (encode_of standard) (pieces bytes) ≡ encode_of standard bytes)
    × (IsBytes bytes → decode_of standard (flat_map (encode_of standard) (pieces bytes)) ≡ Ok bytes)

-- What is printed as records come is the lines of all that is printed of them.
abbrev pub LinesArePrinted : Type 0
LinesArePrinted = (line : List Record → Record → List ℕ) (last : List Record → List ℕ) (records : List Record)
    → whole_text (line_at line) (last_lines line last) records ≡ lines_of (whole_text line last records)

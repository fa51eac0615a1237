-- What is printed as records come.
use Rattle.std.proofs.Common.{◌≡◌, ◌∙◌, ℕ, List, [], ◌∷◌, ◌++◌, refl, sym, ap, append_assoc, append-nil}
use Rattle.vdr_terms.specs.Records.{Record}
use Rattle.vdr_visit.specs.Prints.{lines_behind, text_of}
use Rattle.vdr_visit.proofs.Printing.{text_at}
use Rattle.vdr_base64.specs.Laws.{LinesArePrinted}
use Rattle.vdr_base64.specs.Lines.{left_over, whole_lines, whole_pieces}
use Rattle.vdr_base64.specs.Printing.{last_lines, line_at, waits}
use Rattle.vdr_base64.proofs.Pieces.{left_joined, lines_joined, whole_lines_joined}

-- The text of one record more.
pub text_more : (line : List Record → Record → List ℕ) (seen : List Record) (r : Record) → text_of line (seen ++ r ∷ []) ≡ text_of line seen ++ line seen r
text_more line seen r =
    text_at line seen r [] (seen ++ r ∷ []) (sym (append-nil (seen ++ r ∷ [])))
    ∙ ap (λ (l : List ℕ). text_of line seen ++ l) (append-nil (line seen r))

-- What waits then.
pub waits_more : (line : List Record → Record → List ℕ) (seen : List Record) (r : Record) → left_over (waits line seen ++ line seen r) ≡ waits line (seen ++ r ∷ [])
waits_more line seen r = sym (ap left_over (text_more line seen r) ∙ left_joined (text_of line seen) (line seen r))

behind : (line : List Record → Record → List ℕ) (seen records : List Record)
    → whole_lines (text_of line seen) ++ lines_behind (line_at line) seen records ≡ whole_lines (text_of line (seen ++ records))
behind line seen [] = append-nil (whole_lines (text_of line seen)) ∙ ap (λ (rs : List Record). whole_lines (text_of line rs)) (sym (append-nil seen))
behind line seen (r ∷ rs) =
    let t = text_of line seen in
    sym (append_assoc (whole_lines t) (line_at line seen r) (lines_behind (line_at line) (seen ++ r ∷ []) rs))
    ∙ ap (λ (l : List ℕ). l ++ lines_behind (line_at line) (seen ++ r ∷ []) rs) (sym (whole_lines_joined t (line seen r)) ∙ ap whole_lines (sym (text_more line seen r)))
    ∙ behind line (seen ++ r ∷ []) rs
    ∙ ap (λ (records : List Record). whole_lines (text_of line records)) (append_assoc seen (r ∷ []) rs)

none_whole : whole_lines [] ≡ []
unfolding whole_pieces
none_whole = refl

pub lines_are_printed : LinesArePrinted
lines_are_printed line last records =
    let t = text_of line records in
    ap (λ (l : List ℕ). l ++ last_lines line last records) (ap (λ (l : List ℕ). l ++ text_of (line_at line) records) (sym none_whole) ∙ behind line [] records)
    ∙ sym (lines_joined t (last records))

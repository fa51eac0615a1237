-- What is printed of records, one after another, is their table.
use Rattle.std.proofs.Common.{◌≡◌, ◌∙◌, true, List, [], ◌∷◌, ◌++◌, ℕ, refl, sym, ap, append_assoc}
use Rattle.std.proofs.lemmas.List.Sums.{fold-append}
use Rattle.std.proofs.lemmas.List.{append-nil}
use Rattle.vdr_terms.specs.Records.{Record}
use Rattle.vdr_visit.specs.Prints.{lines_behind, whole_text}
use Rattle.vdr_ais.specs.Lines.{Line}
use Rattle.vdr_rows.specs.Held.{is_some_seen}
use Rattle.vdr_rows.specs.Tables.{back_after, back_of, last_lines, line_at, record_rows, rows_behind, table_text}
use Rattle.vdr_rows.specs.Texts.{rows_text, table_header}
use Rattle.vdr_rows.proofs.RowLemmas.{texts_append}

pub some_seen : (seen : List Record) (r : Record) → is_some_seen (seen ++ r ∷ []) ≡ true
some_seen [] r = refl
some_seen (first ∷ seen) r = refl

behind : (first : Record) (seen records : List Record) → lines_behind line_at (first ∷ seen) records ≡ rows_text (rows_behind (back_of (first ∷ seen)) records)
behind first seen [] = refl
behind first seen (r ∷ rs) =
    let back : List Line = back_of (first ∷ seen) in
    ap (λ (text : List ℕ). rows_text (record_rows back r) ++ text)
    (behind first (seen ++ r ∷ []) rs ∙ ap (λ (lines : List Line). rows_text (rows_behind lines rs)) (fold-append back_after [] (first ∷ seen) (r ∷ [])))
    ∙ sym (texts_append (record_rows back r) (rows_behind (back_after back r) rs))

pub table_printed : (records : List Record) → whole_text line_at last_lines records ≡ table_text records
table_printed [] = sym (append-nil table_header)
table_printed (r ∷ rs) =
    let one : List ℕ = rows_text (record_rows [] r) in
    append-nil (line_at [] r ++ lines_behind line_at (r ∷ []) rs)
    ∙ append_assoc table_header one (lines_behind line_at (r ∷ []) rs)
    ∙ ap (λ (text : List ℕ). table_header ++ text)
    (ap (λ (text : List ℕ). one ++ text) (behind r [] rs) ∙ sym (texts_append (record_rows [] r) (rows_behind (back_after [] r) rs)))

-- A datagram of one line alone: its rows, and the lines that carry parts behind it.
use Rattle.std.proofs.Common.{◌≡◌, ◌∙◌, ℕ, List, [], ◌∷◌, ◌++◌, map, Option, sym, ap}
use Rattle.std.proofs.lemmas.List.{append-nil}
use Rattle.std.proofs.lemmas.List.Sums.{fold-append}
use Rattle.vdr_terms.specs.Records.{Content, Record}
use Rattle.vdr_terms.specs.Records.Content.{Start, Datagram, Gap, Stop}
use Rattle.vdr_datagram.specs.Verdicts.{LineReading, LineSpan, line_spans}
use Rattle.vdr_ais.specs.Bits.{Message}
use Rattle.vdr_ais.specs.Lines.{Line}
use Rattle.vdr_rows.specs.Carriers.{HasOneLine}
use Rattle.vdr_rows.specs.Tables.{back_after, back_behind, back_by, back_of, back_with, content_rows, ended_at, header_behind, line_at, line_rows, lines_rows}
use Rattle.vdr_rows.specs.Texts.{Row, rows_text}

one_rows : (back : List Line) (r : Record) (spans : List LineSpan) (line : LineReading) → map (λ (span : LineSpan). span.verdict) spans ≡ line ∷ []
    → lines_rows back r spans ≡ line_rows r line (ended_at back r.group line)
one_rows back r [] line h = absurd (cc)
one_rows back r (span ∷ []) line h =
    let same : span.verdict ≡ line = cc in
    append-nil (line_rows r span.verdict (ended_at back r.group span.verdict)) ∙ ap (λ (v : LineReading). line_rows r v (ended_at back r.group v)) same
one_rows back r (span ∷ other ∷ spans) line h = absurd (cc)

one_back : (back : List Line) (group : ℕ) (spans : List LineSpan) (line : LineReading) → map (λ (span : LineSpan). span.verdict) spans ≡ line ∷ []
    → back_by back group spans ≡ back_with back group line
one_back back group [] line h = absurd (cc)
one_back back group (span ∷ []) line h = let same : span.verdict ≡ line = cc in ap (back_with back group) same
one_back back group (span ∷ other ∷ spans) line h = absurd (cc)

content_rows_by : (back : List Line) (r : Record) (content : Content) (line : LineReading) → HasOneLine content line
    → content_rows back r content ≡ line_rows r line (ended_at back r.group line)
content_rows_by back r (Datagram payload) line h = one_rows back r (line_spans payload) line h
content_rows_by back r Start line h = absurd h
content_rows_by back r (Gap missed) line h = absurd h
content_rows_by back r Stop line h = absurd h

content_back_by : (back : List Line) (group : ℕ) (content : Content) (line : LineReading) → HasOneLine content line → back_behind back group content ≡ back_with back group line
content_back_by back group (Datagram payload) line h = one_back back group (line_spans payload) line h
content_back_by back group Start line h = absurd h
content_back_by back group (Gap missed) line h = absurd h
content_back_by back group Stop line h = absurd h

-- The lines that carry parts, once there is one more record, of this line alone.
pub back_by_line : (seen : List Record) (r : Record) (line : LineReading) → HasOneLine r.content line → back_of (seen ++ r ∷ []) ≡ back_with (back_of seen) r.group line
back_by_line seen r line h = fold-append back_after [] seen (r ∷ []) ∙ content_back_by (back_of seen) r.group r.content line h

-- What is printed of it.
pub text_by_line : (seen : List Record) (r : Record) (line : LineReading) (ended : Option Message) → HasOneLine r.content line → ended ≡ ended_at (back_of seen) r.group line
    → header_behind seen ++ rows_text (line_rows r line ended) ≡ line_at seen r
text_by_line seen r line ended h is =
    ap (λ (rows : List Row). header_behind seen ++ rows_text rows) (ap (line_rows r line) is ∙ sym (content_rows_by (back_of seen) r r.content line h))

-- The rows of records are theirs, and those of a Gap count what it missed.
use Rattle.std.proofs.Common.{◌≡◌, ◌+◌, ℕ, Bool, true, false, cond, List, [], ◌∷◌, ◌++◌, Option, Some, None, codes, eqb, refl, arith}
use Rattle.std.specs.Prelude.{unwrap_or}
use Rattle.vdr_sentence.specs.Addresses.{address_of}
use Rattle.vdr_values.specs.Readings.{reading}
use Rattle.std.specs.List.{cons_option}
use Rattle.std.proofs.lemmas.Bool.{eqb-true}
use Rattle.std.proofs.lemmas.List.Sums.{sum_by-cons}
use Rattle.vdr_terms.specs.declared.counts.Counts.{Counts}
use Rattle.vdr_terms.specs.Records.{Content, Record, total}
use Rattle.vdr_terms.specs.Records.Content.{Start, Datagram, Gap, Stop}
use Rattle.vdr_datagram.specs.Verdicts.{LineReading, LineSpan, line_spans}
use Rattle.vdr_datagram.specs.Verdicts.LineReading.{Good, Tag, Sentence}
use Rattle.vdr_ais.specs.Bits.{Message}
use Rattle.vdr_ais.specs.Lines.{Line}
use Rattle.vdr_rows.specs.Laws.{AreInOrder, AreOf, RowsAreTold, count_in, counted}
use Rattle.vdr_rows.specs.Reported.{given, message_values}
use Rattle.vdr_rows.specs.Tables.{back_after, back_with, content_rows, ended_at, line_rows, lines_rows, mark, missed, missed_values, record_rows, rows_behind, rows_of}
use Rattle.vdr_rows.specs.Texts.{Heading, Row, heading_of}
use Rattle.vdr_rows.specs.Values.{Said, values_where}

of_heading : (r : Record) (source sentence : List ℕ) (said : List Said) → AreOf r (rows_of (heading_of r source sentence) said)
of_heading r source sentence [] = tt
of_heading r source sentence (s ∷ said) = (refl, refl, of_heading r source sentence said)

of_both : (r : Record) (a b : List Row) → AreOf r a → AreOf r b → AreOf r (a ++ b)
of_both r [] b p q = q
of_both r (row ∷ a) b p q = (p.0, p.1, of_both r a b p.2 q)

of_line : (r : Record) (verdict : LineReading) (ended : Option Message) → AreOf r (line_rows r verdict ended)
of_line r (Good tags sentence) ended =
    of_heading r (unwrap_or tags.source (codes "-")) (address_of sentence.content) (values_where (reading sentence.content) ++ message_values ended)
of_line r (Tag bad) ended = tt
of_line r (Sentence tags bad) ended = tt

of_lines : (back : List Line) (r : Record) (spans : List LineSpan) → AreOf r (lines_rows back r spans)
of_lines back r [] = tt
of_lines back r (span ∷ spans) =
    of_both r (line_rows r span.verdict (ended_at back r.group span.verdict)) (lines_rows (back_with back r.group span.verdict) r spans)
    (of_line r span.verdict (ended_at back r.group span.verdict)) (of_lines (back_with back r.group span.verdict) r spans)

of_content : (back : List Line) (r : Record) (content : Content) → AreOf r (content_rows back r content)
of_content back r Start = of_heading r [] [] (mark (codes "start") ∷ [])
of_content back r (Datagram payload) = of_lines back r (line_spans payload)
of_content back r (Gap counts) = of_heading r [] [] (missed_values counts)
of_content back r Stop = of_heading r [] [] (mark (codes "stop") ∷ [])

in_order : (back : List Line) (records : List Record) → AreInOrder records (rows_behind back records)
in_order back [] = refl
in_order back (r ∷ records) = (record_rows back r, rows_behind (back_after back r) records, refl, of_content back r r.content, in_order (back_after back r) records)

-- One cause.
one_cause : (h : Heading) (cause : List ℕ) (n : ℕ) (rest : List Said) → counted (rows_of h (cons_option (missed cause n) rest)) ≡ n + counted (rows_of h rest)
one_cause h cause n rest = by_test (eqb n 0) refl
  where
    said : Said
    said = record { item = cause; name = codes "missed"; number = Some (record { negative = false; whole = n; fraction = 0 }); measure = []; valid = None; words = [] }

    by_test : (t : Bool) → eqb n 0 ≡ t → counted (rows_of h (cons_option (cond t None (Some said)) rest)) ≡ n + counted (rows_of h rest)
    by_test true e = omega (arith, eqb-true n 0 e)
    by_test false e = sum_by-cons (λ (row : Row). count_in row.said.number) (record { heading = h; said = said }) (rows_of h rest)

missed_counted : (back : List Line) (r : Record) (c : Counts) → counted (content_rows back r (Gap c)) ≡ total c
missed_counted back r c =
    let h : Heading = heading_of r [] [] in
    let large : List Said = given (missed (codes "large") c.large ∷ []) in
    let bad : List Said = given (missed (codes "bad") c.bad ∷ missed (codes "large") c.large ∷ []) in
    let rate : List Said = given (missed (codes "rate") c.rate ∷ missed (codes "bad") c.bad ∷ missed (codes "large") c.large ∷ []) in
    let none : counted (rows_of h []) ≡ 0 = refl in
    omega (
      arith,
      one_cause h (codes "full") c.full rate,
      one_cause h (codes "rate") c.rate bad,
      one_cause h (codes "bad") c.bad large,
      one_cause h (codes "large") c.large [],
      none,
    )

pub rows_told : RowsAreTold
rows_told = record { placed = in_order []; missed = missed_counted }

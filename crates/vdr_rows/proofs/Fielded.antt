-- Each row is a line of eleven fields, whatever was recorded.
use Rattle.std.proofs.Common.{ℕ, Bool, true, false, cond, List, [], ◌∷◌, ◌++◌, Option, Some, None, IfSome, codes, eqb, refl}
use Rattle.std.specs.Prelude.{unwrap_or}
use Rattle.vdr_terms.specs.declared.counts.Counts.{Counts}
use Rattle.vdr_terms.specs.Records.{Content, Record}
use Rattle.vdr_terms.specs.Records.Content.{Start, Datagram, Gap, Stop}
use Rattle.vdr_sentence.specs.Addresses.{address_of}
use Rattle.vdr_values.specs.Readings.{reading}
use Rattle.vdr_datagram.specs.Verdicts.{LineReading, LineSpan, line_spans}
use Rattle.vdr_datagram.specs.Verdicts.LineReading.{Good, Tag, Sentence}
use Rattle.vdr_ais.specs.Bits.{Message}
use Rattle.vdr_ais.specs.Lines.{Line}
use Rattle.vdr_rows.specs.Decimals.{of_count}
use Rattle.vdr_rows.specs.Laws.{AreLines, FieldsAreEleven, IsLine}
use Rattle.vdr_rows.specs.Reported.{message_values}
use Rattle.vdr_rows.specs.Tables.{back_after, back_with, content_rows, ended_at, line_rows, lines_rows, mark, missed, missed_values, record_rows, rows_behind, rows_of}
use Rattle.vdr_rows.specs.Texts.{Heading, Row, heading_of, row_text}
use Rattle.vdr_rows.specs.Values.{Said, values_where}
use Rattle.vdr_rows.proofs.Bare.{bare_decimal, bare_group, bare_none, bare_number, bare_utc, bare_valid, bare_word}
use Rattle.vdr_rows.proofs.Cells.{IsBare, IsPrinted, bare_cell, line_of_cells, printed_bare, quoted_cell}
use Rattle.vdr_rows.proofs.Reporting.{four_given, given_said, message_said}
use Rattle.vdr_rows.proofs.Saying.{AreSaid, IsGiven, IsSaid, none_given, sentence_said, some_given}
use Rattle.vdr_rows.proofs.Sources.{AreRead, IsRead, lines_read}

record IsHead (h : Heading) : Type 0 where
  utc : IsBare h.utc
  place : IsBare h.place
  group : IsBare h.group
  source : IsPrinted h.source
  sentence : IsBare h.sentence

head_of : (r : Record) (source sentence : List ℕ) → IsPrinted source → IsBare sentence → IsHead (heading_of r source sentence)
head_of r source sentence p q = record { utc = bare_utc r.utc; place = bare_decimal r.place; group = bare_group r.group; source = p; sentence = q }

-- The eleven fields of a row.
row_line : (h : Heading) (s : Said) → IsHead h → IsSaid s → IsLine (row_text h s)
unfolding row_text
row_line h s p q =
    line_of_cells (bare_cell p.utc)
    (bare_cell p.place ∷ bare_cell p.group ∷ quoted_cell p.source ∷ bare_cell p.sentence ∷ bare_cell q.item ∷ bare_cell q.name
    ∷ bare_cell (bare_number s.number) ∷ bare_cell q.measure ∷ bare_cell (bare_valid s.valid) ∷ quoted_cell q.words ∷ []) refl

rows_lines : (h : Heading) (said : List Said) → IsHead h → AreSaid said → AreLines (rows_of h said)
rows_lines h [] p ps = tt
rows_lines h (s ∷ said) p ps = (row_line h s p ps.0, rows_lines h said p ps.1)

lines_both : (a b : List Row) → AreLines a → AreLines b → AreLines (a ++ b)
lines_both [] b p q = q
lines_both (row ∷ a) b p q = (p.0, lines_both a b p.1 q)

said_both : (a b : List Said) → AreSaid a → AreSaid b → AreSaid (a ++ b)
said_both [] b p q = q
said_both (s ∷ a) b p q = (p.0, said_both a b p.1 q)

source_of : (source : Option (List ℕ)) → IfSome source IsPrinted → IsPrinted (unwrap_or source (codes "-"))
source_of None p = printed_bare (bare_word (codes "-") refl)
source_of (Some name) p = p

line_lines : (r : Record) (verdict : LineReading) (ended : Option Message) → IsRead verdict → AreLines (line_rows r verdict ended)
line_lines r (Good tags sentence) ended p =
    let source : List ℕ = unwrap_or tags.source (codes "-") in
    rows_lines (heading_of r source (address_of sentence.content)) (values_where (reading sentence.content) ++ message_values ended)
    (head_of r source (address_of sentence.content) (source_of tags.source p.named) p.addressed)
    (said_both (values_where (reading sentence.content)) (message_values ended) (sentence_said sentence.content) (message_said ended))
line_lines r (Tag bad) ended p = tt
line_lines r (Sentence tags bad) ended p = tt

spans_lines : (back : List Line) (r : Record) (spans : List LineSpan) → AreRead spans → AreLines (lines_rows back r spans)
spans_lines back r [] p = tt
spans_lines back r (span ∷ spans) p =
    lines_both (line_rows r span.verdict (ended_at back r.group span.verdict)) (lines_rows (back_with back r.group span.verdict) r spans)
    (line_lines r span.verdict (ended_at back r.group span.verdict) p.0) (spans_lines (back_with back r.group span.verdict) r spans p.1)

-- ---- Start, Gap and Stop

bare_head : (r : Record) → IsHead (heading_of r [] [])
bare_head r = head_of r [] [] (printed_bare bare_none) bare_none

said_mark : (name : List ℕ) → IsBare name → IsSaid (mark name)
said_mark name p = record { item = bare_none; name = p; measure = bare_none; words = printed_bare bare_none }

said_missed : (cause : List ℕ) (count : ℕ) → IsBare cause → IsGiven (missed cause count)
said_missed cause count p = by_test (eqb count 0)
  where
    by_test : (t : Bool) → IsGiven (cond t None (Some (record { item = cause; name = codes "missed"; number = Some (of_count count); measure = []; valid = None; words = [] })))
    by_test true = none_given
    by_test false = some_given (record { item = p; name = bare_word (codes "missed") refl; measure = bare_none; words = printed_bare bare_none })

said_counts : (c : Counts) → AreSaid (missed_values c)
said_counts c =
    given_said (missed (codes "full") c.full ∷ missed (codes "rate") c.rate ∷ missed (codes "bad") c.bad ∷ missed (codes "large") c.large ∷ [])
    (four_given (said_missed (codes "full") c.full (bare_word (codes "full") refl)) (said_missed (codes "rate") c.rate (bare_word (codes "rate") refl))
    (said_missed (codes "bad") c.bad (bare_word (codes "bad") refl)) (said_missed (codes "large") c.large (bare_word (codes "large") refl)))

content_lines : (back : List Line) (r : Record) (content : Content) → AreLines (content_rows back r content)
content_lines back r Start = rows_lines (heading_of r [] []) (mark (codes "start") ∷ []) (bare_head r) (said_mark (codes "start") (bare_word (codes "start") refl), tt)
content_lines back r (Datagram payload) = spans_lines back r (line_spans payload) (lines_read payload)
content_lines back r (Gap counts) = rows_lines (heading_of r [] []) (missed_values counts) (bare_head r) (said_counts counts)
content_lines back r Stop = rows_lines (heading_of r [] []) (mark (codes "stop") ∷ []) (bare_head r) (said_mark (codes "stop") (bare_word (codes "stop") refl), tt)

all_lines : (back : List Line) (records : List Record) → AreLines (rows_behind back records)
all_lines back [] = tt
all_lines back (r ∷ records) =
    lines_both (record_rows back r) (rows_behind (back_after back r) records) (content_lines back r r.content) (all_lines (back_after back r) records)

pub eleven : FieldsAreEleven
eleven = all_lines []

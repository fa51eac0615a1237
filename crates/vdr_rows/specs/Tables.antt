-- The table of values that records give (this project's profile): a row for each value, in order of place, of line, and of the columns of its formatter.
use Rattle.std.specs.Prelude.{ℕ, ◌==◌, List, [], ◌∷◌, ◌++◌, fold, map, Option, Some, None, option_and_then, option_to_list, unwrap_or, codes, if◌then◌else◌}
use Rattle.vdr_terms.specs.declared.counts.Counts.{Counts}
use Rattle.vdr_terms.specs.Records.{Content, Record}
use Rattle.vdr_terms.specs.Records.Content.{Start, Datagram, Gap, Stop}
use Rattle.vdr_sentence.specs.Addresses.{address_of}
use Rattle.vdr_values.specs.Readings.{reading}
use Rattle.vdr_datagram.specs.Verdicts.{LineReading, LineSpan, line_spans}
use Rattle.vdr_datagram.specs.Verdicts.LineReading.{Good, Tag, Sentence}
use Rattle.vdr_ais.specs.Bits.{Message}
use Rattle.vdr_ais.specs.Lines.{Line, line_in}
use Rattle.vdr_ais.specs.Messages.{message_behind}
use Rattle.vdr_rows.specs.Decimals.{of_count}
use Rattle.vdr_rows.specs.Values.{Said, values_where}
use Rattle.vdr_rows.specs.Reported.{given, message_values}
use Rattle.vdr_rows.specs.Texts.{Heading, Row, heading_of, rows_text, table_header}

abbrev pub rows_of : Heading → List Said → List Row
rows_of heading said = map (λ s. record { heading = heading; said = s }) said

-- ---- the rows of a line: what its sentence says, and behind it what the AIS message reports that ends with it

abbrev pub line_rows : Record → LineReading → (ended : Option Message) → List Row
line_rows r (Good tags sentence) ended =
    rows_of (heading_of r (unwrap_or tags.source (codes "-")) (address_of sentence.content)) (values_where (reading sentence.content) ++ message_values ended)
line_rows r (Tag bad) ended = []
line_rows r (Sentence tags bad) ended = []

-- The message that ends at a line of this group behind those that carry parts, the latest first.
abbrev pub ended_at : (back : List Line) (group : ℕ) → LineReading → Option Message
ended_at back group verdict = option_and_then (message_behind back) (line_in group verdict)

abbrev pub back_with : (back : List Line) (group : ℕ) → LineReading → List Line
back_with back group verdict = option_to_list (line_in group verdict) ++ back

abbrev pub lines_rows : (back : List Line) → Record → List LineSpan → List Row
lines_rows back r [] = []
lines_rows back r (span ∷ spans) = line_rows r span.verdict (ended_at back r.group span.verdict) ++ lines_rows (back_with back r.group span.verdict) r spans

abbrev pub back_by : (back : List Line) (group : ℕ) → List LineSpan → List Line
back_by back group spans = fold (λ (before : List Line) (span : LineSpan). back_with before group span.verdict) back spans

-- ---- the rows of a record

-- A row that says no more than this, and one that counts.
abbrev pub mark : (name : List ℕ) → Said
mark name = record { item = []; name = name; number = None; measure = []; valid = None; words = [] }

abbrev pub missed : (cause : List ℕ) (count : ℕ) → Option Said
missed cause count = if count == 0 then None else Some (record { item = cause; name = codes "missed"; number = Some (of_count count); measure = []; valid = None; words = [] })

-- By cause.
abbrev pub missed_values : Counts → List Said
missed_values c = given (missed (codes "full") c.full ∷ missed (codes "rate") c.rate ∷ missed (codes "bad") c.bad ∷ missed (codes "large") c.large ∷ [])

abbrev pub content_rows : (back : List Line) → Record → Content → List Row
content_rows back r Start = rows_of (heading_of r [] []) (mark (codes "start") ∷ [])
content_rows back r (Datagram payload) = lines_rows back r (line_spans payload)
content_rows back r (Gap counts) = rows_of (heading_of r [] []) (missed_values counts)
content_rows back r Stop = rows_of (heading_of r [] []) (mark (codes "stop") ∷ [])

abbrev pub record_rows : (back : List Line) → Record → List Row
record_rows back r = content_rows back r r.content

abbrev pub back_behind : (back : List Line) → (group : ℕ) → Content → List Line
back_behind back group Start = back
back_behind back group (Datagram payload) = back_by back group (line_spans payload)
back_behind back group (Gap counts) = back
back_behind back group Stop = back

-- The lines that carry parts, once there is one more record.
abbrev pub back_after : (back : List Line) → Record → List Line
back_after back r = back_behind back r.group r.content

-- ---- the rows of records

abbrev pub rows_behind : (back : List Line) → List Record → List Row
rows_behind back [] = []
rows_behind back (r ∷ records) = record_rows back r ++ rows_behind (back_after back r) records

-- The table of these records.
abbrev pub table_text : List Record → List ℕ
table_text records = table_header ++ rows_text (rows_behind [] records)

-- ---- as records come, one after another

abbrev pub back_of : List Record → List Line
back_of seen = fold back_after [] seen

-- Nothing was printed before the first record, and not the header.
abbrev pub header_behind : List Record → List ℕ
header_behind [] = table_header
header_behind (r ∷ seen) = []

-- What is printed at a record behind these.
abbrev pub line_at : List Record → Record → List ℕ
line_at seen r = header_behind seen ++ rows_text (record_rows (back_of seen) r)

-- And behind the last of these.
abbrev pub last_lines : List Record → List ℕ
last_lines seen = header_behind seen

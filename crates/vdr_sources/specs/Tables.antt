-- The table of sources of records, and its text (this project's profile; sources and line counts after the TAG blocks of IEC 61162-450).
use Rattle.std.specs.Prelude.{◌++◌, ℕ, true, false, List, [], ◌∷◌, codes, decimal, map, fold, Option, None, unwrap_or}
use Rattle.std.specs.List.{flat_map}
use Rattle.vdr_terms.specs.Groups.{group_name}
use Rattle.vdr_terms.specs.Records.{Record}
use Rattle.vdr_entry.specs.Utc.{utc_text}
use Rattle.vdr_datagram.specs.Verdicts.{LineReading, line_spans}
use Rattle.vdr_datagram.specs.Verdicts.LineReading.{Good, Tag, Sentence}
use Rattle.vdr_durability.specs.Sources.{Line, Reading, Row, lines_of, table_of, with_line}

-- The name of a line that names no source.
abbrev pub named : Option (List ℕ) → List ℕ
named source = unwrap_or source (codes "-")

-- What a line counts for. One whose TAG blocks are refused names no source and has no count.
abbrev pub reading_of : LineReading → Reading
reading_of (Good tags sentence) = record { name = named tags.source; count = tags.line; good = true }
reading_of (Tag bad) = record { name = named None; count = None; good = false }
reading_of (Sentence tags bad) = record { name = named tags.source; count = tags.line; good = false }

-- The readings of a datagram's lines, none where it is no sentence datagram.
abbrev pub read_lines : (payload : List ℕ) → List Reading
read_lines payload = map (λ s. reading_of s.verdict) (line_spans payload)

-- The lines of these records, each with its group, its source and the stamp of its record.
abbrev pub lines_in : List Record → List Line
lines_in records = lines_of read_lines records

-- The table with the lines of one more record.
abbrev pub with_record : List Row → Record → List Row
with_record rows r = fold with_line rows (lines_in (r ∷ []))

-- The table of these records.
abbrev pub sources_of : List Record → List Row
sources_of records = table_of (lines_in records)

-- GROUP SOURCE FIRST LAST LINES BAD BREAKS
unfoldable pub row_text : Row → List ℕ
row_text row =
    group_name row.source.group
    ++ codes " "
    ++ row.source.name
    ++ codes " "
    ++ utc_text row.first
    ++ codes " "
    ++ utc_text row.last
    ++ codes " "
    ++ decimal row.lines
    ++ codes " "
    ++ decimal row.bad
    ++ codes " "
    ++ decimal row.breaks
    ++ codes "\n"

abbrev pub sources_text : List Row → List ℕ
sources_text rows = flat_map row_text rows

-- A page of records (this project's profile): the first text of a template, rows as a data block, and the second text.
use Rattle.std.specs.Prelude.{ℕ, unsigned_abs, List, [], ◌∷◌, ◌++◌, codes}
use Rattle.std.specs.List.{flat_map}
use Rattle.vdr_terms.specs.Groups.{group_name}
use Rattle.vdr_terms.specs.Records.{Record}
use Rattle.vdr_durability.specs.Sources.{Row}
use Rattle.vdr_sources.specs.Tables.{sources_of}
use Rattle.vdr_watch.specs.Supervision.{met_in}
use Rattle.vdr_watch.specs.Texts.{closing_text, record_text}
use Rattle.vdr_visit.specs.Prints.{text_of}
use Rattle.vdr_page.specs.Fields.{row}
use Rattle.vdr_page.specs.Fields.Field.{Number, Text}
use Rattle.vdr_page.specs.Fronts.{Saved, Words, front_rows}
use Rattle.vdr_page.specs.Opens.{closing, content_rows, open_behind}
use Rattle.vdr_page.specs.Surveys.{step_of, survey_of}
use Rattle.vdr_page.specs.Template.{template_head, template_tail}
use Rattle.vdr_page.specs.Watched.{watch_rows}
use Rattle.vdr_page.specs.declared.survey.Survey.{Survey}

-- `["source",GROUP,SOURCE,FIRST,LAST,LINES,BAD,BREAKS]`
abbrev pub source_row : Row → List ℕ
source_row r =
    row (codes "source")
    (Text (group_name r.source.group) ∷ Text r.source.name ∷ Number (unsigned_abs r.first) ∷ Number (unsigned_abs r.last) ∷ Number r.lines ∷ Number r.bad ∷ Number r.breaks ∷ [])

unfoldable pub end_row : List ℕ
end_row = codes "[\"end\"]\n"

-- The rows of a record behind those that were seen, and what `watch` prints at it.
unfoldable pub line_at : Survey → (seen : List Record) → Record → List ℕ
line_at s seen r = content_rows s (open_behind (step_of s) seen) r r.content ++ watch_rows (record_text (met_in seen) r)

-- The rows behind the last record: those that go on, what `watch` prints at the end, the sources, and the end.
unfoldable pub closing_rows : Survey → (seen : List Record) → List ℕ
closing_rows s seen = closing (open_behind (step_of s) seen) ++ watch_rows (closing_text seen) ++ flat_map source_row (sources_of seen) ++ end_row

-- All rows.
unfoldable pub data_block : Words → List Saved → List Record → List ℕ
data_block words saves records = front_rows words (survey_of records) saves ++ text_of (line_at (survey_of records)) records ++ closing_rows (survey_of records) records

unfoldable pub page_text : Words → List Saved → List Record → List ℕ
page_text words saves records = template_head ++ data_block words saves records ++ template_tail

-- ---- as it is printed, in two passes over the records

unfoldable pub front_text : Words → Survey → List Saved → List ℕ
front_text words s saves = template_head ++ front_rows words s saves

unfoldable pub last_lines : Survey → (seen : List Record) → List ℕ
last_lines s seen = closing_rows s seen ++ template_tail

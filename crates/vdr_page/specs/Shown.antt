-- The rows of a page, each with what it tells (this project's profile): what was missed of a group, a run of readings of a series, or something else.
use Rattle.std.specs.Prelude.{ℕ, List, [], ◌∷◌, ◌++◌, codes, get_or, map, Option, Some, None}
use Rattle.std.specs.List.{flat_map}
use Rattle.vdr_terms.specs.Records.{Content, Record}
use Rattle.vdr_terms.specs.Records.Content.{Start, Datagram, Gap, Stop}
use Rattle.vdr_sources.specs.Tables.{sources_of}
use Rattle.vdr_watch.specs.Supervision.{met_in}
use Rattle.vdr_watch.specs.Texts.{closing_text, record_text}
use Rattle.vdr_thin.specs.Handed.{row_with}
use Rattle.vdr_thin.specs.Runs.{Run}
use Rattle.vdr_thin.specs.Tables.{Key, Row, ended_in}
use Rattle.vdr_page.specs.Fronts.{Saved, Words, front_rows}
use Rattle.vdr_page.specs.Gaps.{by_name, closed_by, gap_row, stamp_of}
use Rattle.vdr_page.specs.Opens.{Open, gaps_of, marks_of, open_behind}
use Rattle.vdr_page.specs.Pages.{end_row, source_row}
use Rattle.vdr_page.specs.Rows.{load_of, load_row, mark_row}
use Rattle.vdr_page.specs.Runs.{open_row}
use Rattle.vdr_page.specs.Series.{key_of, name_row, reading_of, rows_with}
use Rattle.vdr_page.specs.Surveys.{step_of, survey_of}
use Rattle.vdr_page.specs.Tellings.{Telling, tellings_of}
use Rattle.vdr_page.specs.Tellings.Telling.{Says, Names}
use Rattle.vdr_page.specs.Watched.{watch_rows}
use Rattle.vdr_page.specs.declared.marks.Marks.{Marks}
use Rattle.vdr_page.specs.declared.survey.Survey.{Survey}

pub data Shown : Type 0 where
  Missed : (group : ℕ) → (marks : Marks) → Shown  -- a row of gaps
  Told : (row : Row) → Shown  -- a row of a run
  Other : (text : List ℕ) → Shown  -- rows of neither, as they stand there

-- As it stands in the data block.
abbrev pub shown_text : Shown → List ℕ
shown_text (Missed group marks) = gap_row group marks
shown_text (Told row) = open_row row
shown_text (Other text) = text

abbrev pub gaps_shown : (group : ℕ) → Option Marks → List Shown
gaps_shown group None = []
gaps_shown group (Some marks) = Missed group marks ∷ []

abbrev pub run_shown : Key → Option Run → List Shown
run_shown key None = []
run_shown key (Some run) = Told (row_with key run) ∷ []

-- The runs that go on, and the gaps by the names of their groups.
abbrev pub going_shown : Open → List Shown
going_shown o = map (λ (row : Row). Told row) o.rows ++ flat_map (λ g. gaps_shown g (get_or o.marks g None)) by_name

abbrev pub telling_shown : (step utc gaps : ℕ) → List Row → Telling → List Shown
telling_shown step utc gaps rows (Says s) = run_shown (key_of s) (ended_in step rows (key_of s) (reading_of utc gaps s))
telling_shown step utc gaps rows (Names formatter mmsi name) = Other (name_row utc formatter mmsi name) ∷ []

abbrev pub tellings_shown : (step utc gaps : ℕ) → List Row → List Telling → List Shown
tellings_shown step utc gaps rows [] = []
tellings_shown step utc gaps rows (t ∷ ts) = telling_shown step utc gaps rows t ++ tellings_shown step utc gaps (rows_with step utc gaps rows t) ts

abbrev pub content_shown : Survey → Open → Record → Content → List Shown
content_shown s o r Start = going_shown o ++ Other (mark_row (codes "start") r) ∷ []
content_shown s o r (Datagram payload) = Other (load_row s r (load_of payload)) ∷ tellings_shown (step_of s) (stamp_of r) (gaps_of o r) o.rows (tellings_of o.back r)
content_shown s o r (Gap missed) = gaps_shown r.group (closed_by (step_of s) (marks_of o r) (stamp_of r))
content_shown s o r Stop = going_shown o ++ Other (mark_row (codes "stop") r) ∷ []

-- The rows at a record behind those that were seen, and those behind the last one.
abbrev pub shown_at : Survey → (seen : List Record) → Record → List Shown
shown_at s seen r = content_shown s (open_behind (step_of s) seen) r r.content ++ Other (watch_rows (record_text (met_in seen) r)) ∷ []

abbrev pub last_shown : Survey → (seen : List Record) → List Shown
last_shown s seen =
    going_shown (open_behind (step_of s) seen)
    ++ Other (watch_rows (closing_text seen)) ∷ Other (flat_map source_row (sources_of seen)) ∷ Other end_row ∷ []

abbrev pub shown_behind : Survey → (seen records : List Record) → List Shown
shown_behind s seen [] = last_shown s seen
shown_behind s seen (r ∷ rs) = shown_at s seen r ++ shown_behind s (seen ++ r ∷ []) rs

-- All rows of a page of these records.
abbrev pub page_shown : Words → List Saved → List Record → List Shown
page_shown words saves records = Other (front_rows words (survey_of records) saves) ∷ shown_behind (survey_of records) [] records

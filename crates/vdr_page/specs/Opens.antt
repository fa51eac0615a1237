-- What is open of records behind which others come, and the rows that a record closes and has of its own (this project's profile).
use Rattle.std.specs.Prelude.{ℕ, ◌+◌, List, [], ◌++◌, codes, fold, get_or, replicate, set, Option, Some, None}
use Rattle.vdr_terms.specs.declared.counts.Counts.{Counts}
use Rattle.vdr_terms.specs.Records.{Content, Record}
use Rattle.vdr_terms.specs.Records.Content.{Start, Datagram, Gap, Stop}
use Rattle.vdr_ais.specs.Lines.{Line}
use Rattle.vdr_rows.specs.Tables.{back_after}
use Rattle.vdr_thin.specs.Tables.{Row}
use Rattle.vdr_page.specs.Gaps.{closed_by, gap_row_if, gap_rows, marks_with, none_open, stamp_of}
use Rattle.vdr_page.specs.Rows.{load_of, load_row, mark_row}
use Rattle.vdr_page.specs.Runs.{open_rows}
use Rattle.vdr_page.specs.Series.{rows_after, tellings_text}
use Rattle.vdr_page.specs.Surveys.{step_of}
use Rattle.vdr_page.specs.Tellings.{tellings_of}
use Rattle.vdr_page.specs.declared.marks.Marks.{Marks}
use Rattle.vdr_page.specs.declared.survey.Survey.{Survey}

-- What is open: the lines that carry parts of AIS messages, the latest first; how many Gaps each group had; the rows of gaps, by the number of their group;
-- and the runs that go on.
pub record Open : Type 0 where
  pub back : List Line
  pub counts : List ℕ
  pub marks : List (Option Marks)
  pub rows : List Row

abbrev pub nothing_open : Open
nothing_open = record { back = []; counts = replicate 16 0; marks = none_open; rows = [] }

-- The Gaps of the record's group before it.
abbrev pub gaps_of : Open → Record → ℕ
gaps_of o r = get_or o.counts r.group 0

abbrev pub marks_of : Open → Record → Option Marks
marks_of o r = get_or o.marks r.group None

-- Behind a Start and a Stop no row goes on.
abbrev pub closed : Open → Open
closed o = record o { marks = none_open; rows = [] }

abbrev pub with_gap : (step : ℕ) → Open → Record → Counts → Open
with_gap step o r missed = record o { counts = set o.counts r.group (gaps_of o r + 1); marks = set o.marks r.group (Some (marks_with step (marks_of o r) r.place (stamp_of r) missed)) }

abbrev pub with_lines : (step : ℕ) → Open → Record → Open
with_lines step o r = record o { back = back_after o.back r; rows = rows_after step (stamp_of r) (gaps_of o r) o.rows (tellings_of o.back r) }

-- What is open behind a record.
abbrev pub open_after : (step : ℕ) → Open → Record → Content → Open
open_after step o r Start = closed o
open_after step o r (Datagram payload) = with_lines step o r
open_after step o r (Gap missed) = with_gap step o r missed
open_after step o r Stop = closed o

-- What is open behind these records.
abbrev pub open_behind : (step : ℕ) → List Record → Open
open_behind step records = fold (λ o r. open_after step o r r.content) nothing_open records

-- The rows that go on: values first, then positions and ships, each by key, and gaps by the names of their groups.
abbrev pub closing : Open → List ℕ
closing o = open_rows o.rows ++ gap_rows o.marks

-- The rows of a record: a Start and a Stop close all that goes on, a Gap the row of its group, and the lines of a Datagram the runs that their readings end.
abbrev pub content_rows : Survey → Open → Record → Content → List ℕ
content_rows s o r Start = closing o ++ mark_row (codes "start") r
content_rows s o r (Datagram payload) = load_row s r (load_of payload) ++ tellings_text (step_of s) (stamp_of r) (gaps_of o r) o.rows (tellings_of o.back r)
content_rows s o r (Gap missed) = gap_row_if r.group (closed_by (step_of s) (marks_of o r) (stamp_of r))
content_rows s o r Stop = closing o ++ mark_row (codes "stop") r

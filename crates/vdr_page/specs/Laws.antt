-- What holds of pages.
use Rattle.std.specs.Prelude.{◌≡◌, ◌-◌, ◌*◌, ◌<◌, ◌≤◌, ℕ, Bool, true, not, ◌&&◌, ◌||◌, ◌==◌, nat_le, List, ◌++◌, length, All, Some}
use Rattle.std.specs.List.{flat_map}
use Rattle.vdr_terms.specs.Records.{Record}
use Rattle.vdr_visit.specs.Prints.{whole_text}
use Rattle.vdr_thin.specs.Tables.{Key}
use Rattle.vdr_page.specs.Fronts.{Saved, Words}
use Rattle.vdr_page.specs.Missed.{TellGaps, gaps_in, marks_in}
use Rattle.vdr_page.specs.Opens.{gaps_of, open_behind}
use Rattle.vdr_page.specs.Pages.{data_block, front_text, last_lines, line_at, page_text}
use Rattle.vdr_page.specs.Parts.{TellRuns, parts_of}
use Rattle.vdr_page.specs.Shown.{page_shown, shown_text}
use Rattle.vdr_page.specs.Surveys.{step_of, survey_of}
use Rattle.vdr_page.specs.Template.{template_head, template_tail}

-- A page is its front, and then what a printer prints of its records, by what the first pass found of them.
abbrev pub PageIsPrinted : Type 0
PageIsPrinted = (words : Words) (saves : List Saved) (records : List Record)
    → page_text words saves records ≡ front_text words (survey_of records) saves ++ whole_text (line_at (survey_of records)) (last_lines (survey_of records)) records

-- LF, or 0x20 to 0x7E and none of `<`, `>` and `&`.
abbrev pub is_quiet : ℕ → Bool
is_quiet byte = (byte == 10) || (nat_le 32 byte && nat_le byte 126 && not (byte == 38) && not (byte == 60) && not (byte == 62))

-- Between the two texts of the template stands no byte that could begin markup, an entity, or another character set.
pub record BlockIsQuiet : Type 0 where
  pub page : (words : Words) (saves : List Saved) (records : List Record) → page_text words saves records ≡ template_head ++ data_block words saves records ++ template_tail
  pub quiet : (words : Words) (saves : List Saved) (records : List Record) → All (λ byte. is_quiet byte ≡ true) (data_block words saves records)

-- 1,500 buckets of this length cover the stamps, and 1,500 of one millisecond less do not.
abbrev pub StepCovers : Type 0
StepCovers = (records : List Record) (low high : ℕ) → (survey_of records).low ≡ Some low → (survey_of records).high ≡ Some high
    → (high - low < 1500 * step_of (survey_of records)) × (1500 * (step_of (survey_of records) - 1) ≤ high - low)

-- ---- what rows tell

-- The data block is the text of the page's rows, one after the other.
abbrev pub RowsAreShown : Type 0
RowsAreShown = (words : Words) (saves : List Saved) (records : List Record) → data_block words saves records ≡ flat_map shown_text (page_shown words saves records)

-- Of each group the rows of gaps tell how many Gaps the records have of it, and what these miss, cause by cause.
abbrev pub GapRowsAddUp : Type 0
GapRowsAddUp = (words : Words) (saves : List Saved) (records : List Record) (group : ℕ) → group ≤ 15 → TellGaps (marks_in group (page_shown words saves records)) (gaps_in group records)

-- Of each series the rows of runs are those of its readings between a Start or Stop and the next one, and count each reading once.
abbrev pub RunRowsAddUp : Type 0
RunRowsAddUp = (words : Words) (saves : List Saved) (records : List Record) (key : Key)
    → TellRuns key (step_of (survey_of records)) (page_shown words saves records) (parts_of (step_of (survey_of records)) records)

-- A reading stands behind as many Gaps as its group has before it: so a run that a Gap stands in or before says so.
abbrev pub GapsAreCounted : Type 0
GapsAreCounted = (step : ℕ) (seen : List Record) (r : Record) → r.group ≤ 15 → gaps_of (open_behind step seen) r ≡ length (gaps_in r.group seen)

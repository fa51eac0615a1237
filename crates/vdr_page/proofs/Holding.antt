-- What is kept of records, and what is told of them, with one more.
use Rattle.std.proofs.Common.{◌≡◌, ℕ, List, [], ◌∷◌, ◌++◌, ap, ◌∙◌, sym}
use Rattle.std.specs.List.{flat_map}
use Rattle.std.proofs.lemmas.Grind.{flat_map-append, fold-append}
use Rattle.vdr_terms.specs.Records.{Record}
use Rattle.vdr_durability.specs.Sources.{Row, table_of, with_line}
use Rattle.vdr_sources.specs.Tables.{lines_in, sources_of, with_record}
use Rattle.vdr_watch.specs.Supervision.{met_in}
use Rattle.vdr_watch.specs.Texts.{closing_text, record_text}
use Rattle.vdr_page.specs.Opens.{Open, closing, content_rows, nothing_open, open_after, open_behind}
use Rattle.vdr_page.specs.Pages.{closing_rows, end_row, last_lines, line_at, source_row}
use Rattle.vdr_page.specs.Surveys.{step_of}
use Rattle.vdr_page.specs.Template.{template_tail}
use Rattle.vdr_page.specs.Watched.{watch_rows}
use Rattle.vdr_page.specs.declared.survey.Survey.{Survey}

pub open_next : (step : ℕ) (seen : List Record) (r : Record) → open_after step (open_behind step seen) r r.content ≡ open_behind step (seen ++ r ∷ [])
open_next step seen r = sym (fold-append (λ (o : Open) (x : Record). open_after step o x x.content) nothing_open seen (r ∷ []))

lines_more : (seen : List Record) (r : Record) → lines_in (seen ++ r ∷ []) ≡ lines_in seen ++ lines_in (r ∷ [])
lines_more seen r = flat_map-append _ seen (r ∷ [])

pub sources_next : (rows left : List Row) (seen : List Record) (r : Record) → rows ≡ sources_of seen → left ≡ with_record rows r → left ≡ sources_of (seen ++ r ∷ [])
sources_next rows left seen r rows_are left_are =
    left_are ∙ ap (λ (t : List Row). with_record t r) rows_are ∙ sym (fold-append with_line [] (lines_in seen) (lines_in (r ∷ []))) ∙ ap table_of (sym (lines_more seen r))

pub line_told : (survey known : Survey) (seen : List Record) (r : Record) (none rows all : List ℕ) → known ≡ survey → none ≡ [] → rows ≡ none ++ content_rows known (open_behind (step_of known) seen) r r.content
    → all ≡ rows ++ watch_rows (record_text (met_in seen) r) → all ≡ line_at survey seen r
unfolding line_at
line_told survey known seen r none rows all known_is none_is rows_are all_is =
    all_is ∙ ap (λ (t : List ℕ). t ++ watch_rows (record_text (met_in seen) r)) (rows_are ∙ (λ i. none_is i ++ content_rows (known_is i) (open_behind (step_of (known_is i)) seen) r r.content))

pub last_told : (survey : Survey) (rows : List Row) (seen : List Record) (none closed watched sources all : List ℕ) → rows ≡ sources_of seen → none ≡ [] → closed ≡ none ++ closing (open_behind (step_of survey) seen)
    → watched ≡ closed ++ watch_rows (closing_text seen) → sources ≡ watched ++ flat_map source_row rows → all ≡ sources ++ end_row ++ template_tail → all ≡ last_lines survey seen
unfolding last_lines closing_rows
last_told survey rows seen none closed watched sources all rows_are none_is closed_is watched_is sources_is all_is =
    all_is ∙ ap (λ (t : List ℕ). t ++ end_row ++ template_tail)
    (sources_is ∙ (λ i. (watched_is ∙ ap (λ (t : List ℕ). t ++ watch_rows (closing_text seen)) (closed_is ∙ ap (λ (t : List ℕ). t ++ closing (open_behind (step_of survey) seen)) none_is)) i ++ flat_map source_row (rows_are i)))

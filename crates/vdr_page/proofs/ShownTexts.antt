-- The data block is the text of its rows.
use Rattle.std.proofs.Common.{◌≡◌, ◌∙◌, ◌++◌, ℕ, List, [], ◌∷◌, codes, get_or, map, Option, Some, None, refl, sym, ap, append_assoc, append-nil}
use Rattle.std.specs.List.{flat_map}
use Rattle.std.proofs.lemmas.Grind.{flat_map-append}
use Rattle.vdr_terms.specs.Records.{Content, Record}
use Rattle.vdr_terms.specs.Records.Content.{Start, Datagram, Gap, Stop}
use Rattle.vdr_sources.specs.Tables.{sources_of}
use Rattle.vdr_watch.specs.Supervision.{met_in}
use Rattle.vdr_watch.specs.Texts.{closing_text, record_text}
use Rattle.vdr_visit.specs.Prints.{lines_behind, text_of}
use Rattle.vdr_thin.specs.Runs.{Run}
use Rattle.vdr_thin.specs.Tables.{Key, Row, ended_in}
use Rattle.vdr_page.specs.Fronts.{front_rows}
use Rattle.vdr_page.specs.Gaps.{by_name, closed_by, gap_row, gap_row_if, stamp_of}
use Rattle.vdr_page.specs.Laws.{RowsAreShown}
use Rattle.vdr_page.specs.Opens.{Open, closing, content_rows, gaps_of, marks_of, open_behind}
use Rattle.vdr_page.specs.Pages.{closing_rows, data_block, end_row, line_at, source_row}
use Rattle.vdr_page.specs.Rows.{load_of, load_row, mark_row}
use Rattle.vdr_page.specs.Runs.{open_row, open_rows, run_row, run_row_if}
use Rattle.vdr_page.specs.Series.{key_of, name_row, reading_of, rows_with, telling_text, tellings_text}
use Rattle.vdr_page.specs.Shown.{Shown, content_shown, gaps_shown, going_shown, last_shown, run_shown, shown_at, shown_behind, shown_text, telling_shown, tellings_shown}
use Rattle.vdr_page.specs.Shown.Shown.{Told, Other}
use Rattle.vdr_page.specs.Surveys.{step_of, survey_of}
use Rattle.vdr_page.specs.Tellings.{Telling, tellings_of}
use Rattle.vdr_page.specs.Tellings.Telling.{Says, Names}
use Rattle.vdr_page.specs.Watched.{watch_rows}
use Rattle.vdr_page.specs.declared.marks.Marks.{Marks}
use Rattle.vdr_page.specs.declared.survey.Survey.{Survey}

abbrev text_in : List Shown → List ℕ
text_in rows = flat_map shown_text rows

joined : (a b : List Shown) → text_in (a ++ b) ≡ text_in a ++ text_in b
joined a b = flat_map-append shown_text a b

-- ---- what goes on

runs_text : (rows : List Row) → text_in (map (λ (row : Row). Told row) rows) ≡ open_rows rows
runs_text [] = refl
runs_text (row ∷ rows) = ap (λ (text : List ℕ). open_row row ++ text) (runs_text rows)

gap_text : (group : ℕ) (m : Option Marks) → text_in (gaps_shown group m) ≡ gap_row_if group m
gap_text group None = refl
gap_text group (Some m) = append-nil (gap_row group m)

gaps_text : (slots : List (Option Marks)) (gs : List ℕ)
    → text_in (flat_map (λ g. gaps_shown g (get_or slots g None)) gs) ≡ flat_map (λ g. gap_row_if g (get_or slots g None)) gs
gaps_text slots [] = refl
gaps_text slots (g ∷ gs) =
    joined (gaps_shown g (get_or slots g None)) (flat_map (λ g. gaps_shown g (get_or slots g None)) gs)
    ∙ (λ i. gap_text g (get_or slots g None) i ++ gaps_text slots gs i)

going_text : (o : Open) → text_in (going_shown o) ≡ closing o
going_text o =
    joined (map (λ (row : Row). Told row) o.rows) (flat_map (λ g. gaps_shown g (get_or o.marks g None)) by_name)
    ∙ (λ i. runs_text o.rows i ++ gaps_text o.marks by_name i)

-- ---- what records tell

run_text : (key : Key) (run : Option Run) → text_in (run_shown key run) ≡ run_row_if key.kind key.text run
run_text key None = refl
run_text key (Some run) = append-nil (run_row key.kind key.text run)

told_text : (step utc gaps : ℕ) (rows : List Row) (t : Telling) → text_in (telling_shown step utc gaps rows t) ≡ telling_text step utc gaps rows t
told_text step utc gaps rows (Says s) = run_text (key_of s) (ended_in step rows (key_of s) (reading_of utc gaps s))
told_text step utc gaps rows (Names formatter mmsi name) = append-nil (name_row utc formatter mmsi name)

all_told_text : (step utc gaps : ℕ) (rows : List Row) (ts : List Telling) → text_in (tellings_shown step utc gaps rows ts) ≡ tellings_text step utc gaps rows ts
all_told_text step utc gaps rows [] = refl
all_told_text step utc gaps rows (t ∷ ts) =
    joined (telling_shown step utc gaps rows t) (tellings_shown step utc gaps (rows_with step utc gaps rows t) ts)
    ∙ (λ i. told_text step utc gaps rows t i ++ all_told_text step utc gaps (rows_with step utc gaps rows t) ts i)

-- ---- records

marked_text : (o : Open) (mark : List ℕ) → text_in (going_shown o ++ Other mark ∷ []) ≡ closing o ++ mark
marked_text o mark = joined (going_shown o) (Other mark ∷ []) ∙ (λ i. going_text o i ++ append-nil mark i)

content_text : (s : Survey) (o : Open) (r : Record) (content : Content) → text_in (content_shown s o r content) ≡ content_rows s o r content
content_text s o r Start = marked_text o (mark_row (codes "start") r)
content_text s o r (Datagram payload) =
    ap (λ (text : List ℕ). load_row s r (load_of payload) ++ text) (all_told_text (step_of s) (stamp_of r) (gaps_of o r) o.rows (tellings_of o.back r))
content_text s o r (Gap missed) = gap_text r.group (closed_by (step_of s) (marks_of o r) (stamp_of r))
content_text s o r Stop = marked_text o (mark_row (codes "stop") r)

at_text : (s : Survey) (seen : List Record) (r : Record) → text_in (shown_at s seen r) ≡ line_at s seen r
unfolding line_at
at_text s seen r =
    let o : Open = open_behind (step_of s) seen in
    let watched : List ℕ = watch_rows (record_text (met_in seen) r) in
    joined (content_shown s o r r.content) (Other watched ∷ []) ∙ (λ i. content_text s o r r.content i ++ append-nil watched i)

four : (c w s e : List ℕ) → c ++ (w ++ (s ++ (e ++ []))) ≡ ((c ++ w) ++ s) ++ e
four c w s e = ap (λ (x : List ℕ). c ++ (w ++ (s ++ x))) (append-nil e) ∙ sym (append_assoc c w (s ++ e)) ∙ sym (append_assoc (c ++ w) s e)

last_text : (s : Survey) (seen : List Record) → text_in (last_shown s seen) ≡ closing_rows s seen
unfolding closing_rows
last_text s seen =
    let o : Open = open_behind (step_of s) seen in
    let watched : List ℕ = watch_rows (closing_text seen) in
    let sources : List ℕ = flat_map source_row (sources_of seen) in
    joined (going_shown o) (Other watched ∷ Other sources ∷ Other end_row ∷ [])
    ∙ ap (λ (text : List ℕ). text ++ (watched ++ (sources ++ (end_row ++ [])))) (going_text o)
    ∙ four (closing o) watched sources end_row

behind_text : (s : Survey) (seen rs : List Record) → text_in (shown_behind s seen rs) ≡ lines_behind (line_at s) seen rs ++ closing_rows s (seen ++ rs)
behind_text s seen [] = last_text s seen ∙ ap (closing_rows s) (sym (append-nil seen))
behind_text s seen (r ∷ rs) =
    let next : List Record = seen ++ r ∷ [] in
    joined (shown_at s seen r) (shown_behind s next rs)
    ∙ (λ i. at_text s seen r i ++ (behind_text s next rs ∙ ap (λ (all : List Record). lines_behind (line_at s) next rs ++ closing_rows s all) (append_assoc seen (r ∷ []) rs)) i)
    ∙ sym (append_assoc (line_at s seen r) (lines_behind (line_at s) next rs) (closing_rows s (seen ++ r ∷ rs)))

pub rows_are_shown : RowsAreShown
unfolding data_block
rows_are_shown words saves records =
    let s : Survey = survey_of records in
    append_assoc (front_rows words s saves) (text_of (line_at s) records) (closing_rows s records)
    ∙ ap (λ (text : List ℕ). front_rows words s saves ++ text) (sym (behind_text s [] records))

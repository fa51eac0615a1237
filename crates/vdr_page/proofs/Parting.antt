-- The rows of runs of a series are the runs of its readings.
use Rattle.std.proofs.Common.{◌≡◌, ◌+◌, ◌∙◌, ◌++◌, ℕ, Bool, true, false, cond, List, [], ◌∷◌, codes, fold, get_or, length, map, filter, sum_by, Option, Some, None, option_map, refl, sym, ap, append_assoc, append-nil}
use Rattle.std.specs.Prelude.{option_to_list}
use Rattle.std.specs.List.{cons_option, filter_map, flat_map}
use Rattle.std.proofs.lemmas.Grind.{fold-append}
use Rattle.std.proofs.lemmas.List.Elements.{filter_map-append}
use Rattle.std.proofs.lemmas.List.Sums.{sum_by-append, sum_by-cons}
use Rattle.vdr_terms.specs.Records.{Content, Record, has_items}
use Rattle.vdr_terms.specs.Records.Content.{Start, Datagram, Gap, Stop}
use Rattle.vdr_sources.specs.Tables.{sources_of}
use Rattle.vdr_watch.specs.Supervision.{met_in}
use Rattle.vdr_watch.specs.Texts.{closing_text, record_text}
use Rattle.vdr_thin.specs.Handed as thin
use Rattle.vdr_thin.specs.Handed.{handed_out, is_of, readings_of, row_with, runs_handed}
use Rattle.vdr_thin.specs.Runs.{Run, count_of, runs_of}
use Rattle.vdr_thin.specs.Tables.{Key, Row, ended_in, longest, rows_behind}
use Rattle.vdr_thin.proofs.Counting.{each_counts}
use Rattle.vdr_thin.proofs.Handing.{hands_out}
use Rattle.vdr_page.specs.Gaps.{by_name, closed_by, stamp_of}
use Rattle.vdr_page.specs.Laws.{RunRowsAddUp}
use Rattle.vdr_page.specs.Opens.{Open, gaps_of, marks_of, open_after, open_behind}
use Rattle.vdr_page.specs.Pages.{end_row, source_row}
use Rattle.vdr_page.specs.Parts.{parts_behind, parts_of, run_at, runs_in, told_at, told_by}
use Rattle.vdr_page.specs.Rows.{mark_row}
use Rattle.vdr_page.specs.Series.{key_of, reading_of, rows_after, rows_with}
use Rattle.vdr_page.specs.Shown.{Shown, content_shown, gaps_shown, going_shown, last_shown, run_shown, shown_at, shown_behind, tellings_shown}
use Rattle.vdr_page.specs.Shown.Shown.{Told, Other}
use Rattle.vdr_page.specs.Surveys.{step_of, survey_of}
use Rattle.vdr_page.specs.Tellings.{Telling, content_tellings, tellings_of}
use Rattle.vdr_page.specs.Tellings.Telling.{Says, Names}
use Rattle.vdr_page.specs.Watched.{watch_rows}
use Rattle.vdr_page.specs.declared.marks.Marks.{Marks}
use Rattle.vdr_page.specs.declared.survey.Survey.{Survey}
use Rattle.vdr_page.proofs.Holding.{open_next}

-- ---- a table to which readings come

abbrev rows_then : (step : ℕ) → List Row → thin.Told → List Row
rows_then step rows t = rows_behind step rows t.key t.reading

abbrev ended_by_one : (step : ℕ) → List Row → thin.Told → List Row
ended_by_one step rows t = option_to_list (option_map (row_with t.key) (ended_in step rows t.key t.reading))

-- The runs that they end, and the table behind them.
abbrev ended_rows : (step : ℕ) → List Row → List thin.Told → List Row
ended_rows step rows [] = []
ended_rows step rows (t ∷ told) = ended_by_one step rows t ++ ended_rows step (rows_then step rows t) told

abbrev table_behind : (step : ℕ) → List Row → List thin.Told → List Row
table_behind step rows told = fold (rows_then step) rows told

handed_parts : (step : ℕ) (rows : List Row) (told : List thin.Told) → handed_out step rows told ≡ ended_rows step rows told ++ table_behind step rows told
handed_parts step rows [] = refl
handed_parts step rows (t ∷ told) =
    ap (λ (later : List Row). ended_by_one step rows t ++ later) (handed_parts step (rows_then step rows t) told)
    ∙ sym (append_assoc (ended_by_one step rows t) (ended_rows step (rows_then step rows t) told) (table_behind step (rows_then step rows t) told))

ended_joined : (step : ℕ) (rows : List Row) (a b : List thin.Told) → ended_rows step rows (a ++ b) ≡ ended_rows step rows a ++ ended_rows step (table_behind step rows a) b
ended_joined step rows [] b = refl
ended_joined step rows (t ∷ a) b =
    ap (λ (later : List Row). ended_by_one step rows t ++ later) (ended_joined step (rows_then step rows t) a b)
    ∙ sym (append_assoc (ended_by_one step rows t) (ended_rows step (rows_then step rows t) a) (ended_rows step (table_behind step (rows_then step rows t) a) b))

table_joined : (step : ℕ) (rows : List Row) (a b : List thin.Told) → table_behind step rows (a ++ b) ≡ table_behind step (table_behind step rows a) b
table_joined step rows a b = fold-append (rows_then step) rows a b

-- What tellings leave.
rows_told : (step utc gaps : ℕ) (rows : List Row) (ts : List Telling) → rows_after step utc gaps rows ts ≡ table_behind step rows (filter_map (told_by utc gaps) ts)
rows_told step utc gaps rows [] = refl
rows_told step utc gaps rows (Says s ∷ ts) = rows_told step utc gaps (rows_with step utc gaps rows (Says s)) ts
rows_told step utc gaps rows (Names formatter mmsi name ∷ ts) = rows_told step utc gaps rows ts

-- ---- the rows of runs of a series

module _ (key : Key) where
  handed_joined : (a b : List Row) → runs_handed key (a ++ b) ≡ runs_handed key a ++ runs_handed key b
  handed_joined [] b = refl
  handed_joined (row ∷ a) b = go (is_of key row.key) (handed_joined a b)
    where
      go : (t : Bool) → runs_handed key (a ++ b) ≡ runs_handed key a ++ runs_handed key b
          → map (λ (row : Row). row.run) (cond t (row ∷ filter (λ (row : Row). is_of key row.key) (a ++ b)) (filter (λ (row : Row). is_of key row.key) (a ++ b)))
          ≡ map (λ (row : Row). row.run) (cond t (row ∷ filter (λ (row : Row). is_of key row.key) a) (filter (λ (row : Row). is_of key row.key) a)) ++ runs_handed key b
      go true later = ap (λ (runs : List Run). row.run ∷ runs) later
      go false later = later

  runs_joined : (a b : List Shown) → runs_in key (a ++ b) ≡ runs_in key a ++ runs_in key b
  runs_joined a b = filter_map-append (run_at key) a b

  of_rows : (rows : List Row) → runs_in key (map (λ (row : Row). Told row) rows) ≡ runs_handed key rows
  of_rows [] = refl
  of_rows (row ∷ rows) = go (is_of key row.key) (of_rows rows)
    where
      others : List Row
      others = filter (λ (row : Row). is_of key row.key) rows

      go : (b : Bool) → runs_in key (map (λ (row : Row). Told row) rows) ≡ map (λ (row : Row). row.run) others
          → cons_option (cond b (Some row.run) None) (runs_in key (map (λ (row : Row). Told row) rows)) ≡ map (λ (row : Row). row.run) (cond b (row ∷ others) others)
      go true later = ap (λ (runs : List Run). row.run ∷ runs) later
      go false later = later

  of_gap : (group : ℕ) (m : Option Marks) → runs_in key (gaps_shown group m) ≡ []
  of_gap group None = refl
  of_gap group (Some m) = refl

  of_gaps : (slots : List (Option Marks)) (gs : List ℕ) → runs_in key (flat_map (λ g. gaps_shown g (get_or slots g None)) gs) ≡ []
  of_gaps slots [] = refl
  of_gaps slots (g ∷ gs) =
      runs_joined (gaps_shown g (get_or slots g None)) (flat_map (λ g. gaps_shown g (get_or slots g None)) gs)
      ∙ (λ i. of_gap g (get_or slots g None) i ++ of_gaps slots gs i)

  of_going : (o : Open) → runs_in key (going_shown o) ≡ runs_handed key o.rows
  of_going o =
      runs_joined (map (λ (row : Row). Told row) o.rows) (flat_map (λ g. gaps_shown g (get_or o.marks g None)) by_name)
      ∙ (λ i. of_rows o.rows i ++ of_gaps o.marks by_name i)
      ∙ append-nil (runs_handed key o.rows)

  of_run : (k : Key) (run : Option Run) → runs_in key (run_shown k run) ≡ runs_handed key (option_to_list (option_map (row_with k) run))
  of_run k None = refl
  of_run k (Some run) = of_rows (row_with k run ∷ [])

  of_tellings : (step utc gaps : ℕ) (rows : List Row) (ts : List Telling)
      → runs_in key (tellings_shown step utc gaps rows ts) ≡ runs_handed key (ended_rows step rows (filter_map (told_by utc gaps) ts))
  of_tellings step utc gaps rows [] = refl
  of_tellings step utc gaps rows (Says s ∷ ts) =
      let ended : Option Run = ended_in step rows (key_of s) (reading_of utc gaps s) in
      let behind : List Row = rows_with step utc gaps rows (Says s) in
      runs_joined (run_shown (key_of s) ended) (tellings_shown step utc gaps behind ts)
      ∙ (λ i. of_run (key_of s) ended i ++ of_tellings step utc gaps behind ts i)
      ∙ sym (handed_joined (option_to_list (option_map (row_with (key_of s)) ended)) (ended_rows step behind (filter_map (told_by utc gaps) ts)))
  of_tellings step utc gaps rows (Names formatter mmsi name ∷ ts) = of_tellings step utc gaps rows ts

  of_marked : (o : Open) (mark : List ℕ) → runs_in key (going_shown o ++ Other mark ∷ []) ≡ runs_handed key o.rows
  of_marked o mark = runs_joined (going_shown o) (Other mark ∷ []) ∙ append-nil (runs_in key (going_shown o)) ∙ of_going o

  at_runs : (s : Survey) (seen : List Record) (r : Record) → runs_in key (shown_at s seen r) ≡ runs_in key (content_shown s (open_behind (step_of s) seen) r r.content)
  at_runs s seen r =
      let shown : List Shown = content_shown s (open_behind (step_of s) seen) r r.content in
      runs_joined shown (Other (watch_rows (record_text (met_in seen) r)) ∷ []) ∙ append-nil (runs_in key shown)

  last_runs : (s : Survey) (seen : List Record) → runs_in key (last_shown s seen) ≡ runs_handed key (open_behind (step_of s) seen).rows
  last_runs s seen =
      let o : Open = open_behind (step_of s) seen in
      runs_joined (going_shown o) (Other (watch_rows (closing_text seen)) ∷ Other (flat_map source_row (sources_of seen)) ∷ Other end_row ∷ [])
      ∙ append-nil (runs_in key (going_shown o)) ∙ of_going o

-- ---- part by part

abbrev part_runs : Key → (step : ℕ) → List thin.Told → List Run
part_runs key step part = runs_of step (longest key.kind) (readings_of key part)

abbrev ended_runs : Key → (step : ℕ) → List thin.Told → List Run
ended_runs key step part = runs_handed key (ended_rows step [] part)

-- The rows behind these records, where a part has begun.
abbrev Follow : Key → Survey → (seen : List Record) → (part : List thin.Told) → List Record → Type 0
Follow key s seen part rs =
    ended_runs key (step_of s) part ++ runs_in key (shown_behind s seen rs) ≡ flat_map (part_runs key (step_of s)) (parts_behind (step_of s) seen part rs)

-- A part that ends: its runs are those that it ended and those that go on.
whole_part : (key : Key) (step : ℕ) (part : List thin.Told) (rows : List Row) → rows ≡ table_behind step [] part → ended_runs key step part ++ runs_handed key rows ≡ part_runs key step part
whole_part key step part rows is =
    ap (λ (rows : List Row). ended_runs key step part ++ runs_handed key rows) is
    ∙ sym (handed_joined key (ended_rows step [] part) (table_behind step [] part))
    ∙ ap (runs_handed key) (sym (handed_parts step [] part))
    ∙ hands_out step key part

mark_ends : (key : Key) (step : ℕ) (part : List thin.Told) (o : Open) (mark : List ℕ) (later : List Run) (parts : List (List thin.Told))
    → o.rows ≡ table_behind step [] part → later ≡ flat_map (part_runs key step) parts
    → ended_runs key step part ++ (runs_in key (going_shown o ++ Other mark ∷ []) ++ later) ≡ part_runs key step part ++ flat_map (part_runs key step) parts
mark_ends key step part o mark later parts is rest =
    (λ i. ended_runs key step part ++ (of_marked key o mark i ++ rest i))
    ∙ sym (append_assoc (ended_runs key step part) (runs_handed key o.rows) (flat_map (part_runs key step) parts))
    ∙ ap (λ (runs : List Run). runs ++ flat_map (part_runs key step) parts) (whole_part key step part o.rows is)

-- More of the part.
ended_more : (key : Key) (step : ℕ) (part new : List thin.Told) (rows : List Row) (later : List Run) → rows ≡ table_behind step [] part
    → ended_runs key step part ++ (runs_handed key (ended_rows step rows new) ++ later) ≡ ended_runs key step (part ++ new) ++ later
ended_more key step part new rows later is =
    sym (append_assoc (ended_runs key step part) (runs_handed key (ended_rows step rows new)) later)
    ∙ ap (λ (runs : List Run). runs ++ later)
    (ap (λ (rows : List Row). ended_runs key step part ++ runs_handed key (ended_rows step rows new)) is
    ∙ sym (handed_joined key (ended_rows step [] part) (ended_rows step (table_behind step [] part) new))
    ∙ ap (runs_handed key) (sym (ended_joined step [] part new)))

rows_more : (step utc gaps : ℕ) (part : List thin.Told) (rows : List Row) (ts : List Telling) → rows ≡ table_behind step [] part
    → rows_after step utc gaps rows ts ≡ table_behind step [] (part ++ filter_map (told_by utc gaps) ts)
rows_more step utc gaps part rows ts is =
    let new : List thin.Told = filter_map (told_by utc gaps) ts in
    rows_told step utc gaps rows ts ∙ ap (λ (rows : List Row). table_behind step rows new) is ∙ sym (table_joined step [] part new)

follows : (key : Key) (s : Survey) (seen rs : List Record) (part : List thin.Told) → (open_behind (step_of s) seen).rows ≡ table_behind (step_of s) [] part → Follow key s seen part rs
follows key s seen [] part is =
    ap (λ (runs : List Run). ended_runs key (step_of s) part ++ runs) (last_runs key s seen)
    ∙ whole_part key (step_of s) part (open_behind (step_of s) seen).rows is
    ∙ sym (append-nil (part_runs key (step_of s) part))
follows key s seen (r ∷ rs) part is =
    ap (λ (runs : List Run). ended_runs key (step_of s) part ++ runs)
    (runs_joined key (shown_at s seen r) (shown_behind s (seen ++ r ∷ []) rs) ∙ ap (λ (runs : List Run). runs ++ runs_in key (shown_behind s (seen ++ r ∷ []) rs)) (at_runs key s seen r))
    ∙ go r.content refl (follows key s (seen ++ r ∷ []) rs)
  where
    rows_next : (content : Content) → r.content ≡ content → (open_behind (step_of s) (seen ++ r ∷ [])).rows ≡ (open_after (step_of s) (open_behind (step_of s) seen) r content).rows
    rows_next content e = ap (λ (o : Open). o.rows) (sym (open_next (step_of s) seen r)) ∙ ap (λ (content : Content). (open_after (step_of s) (open_behind (step_of s) seen) r content).rows) e

    go : (content : Content) → r.content ≡ content
        → ((part : List thin.Told) → (open_behind (step_of s) (seen ++ r ∷ [])).rows ≡ table_behind (step_of s) [] part → Follow key s (seen ++ r ∷ []) part rs)
        → ended_runs key (step_of s) part ++ (runs_in key (content_shown s (open_behind (step_of s) seen) r content) ++ runs_in key (shown_behind s (seen ++ r ∷ []) rs))
        ≡ flat_map (part_runs key (step_of s))
        (cond (has_items content) (parts_behind (step_of s) (seen ++ r ∷ []) (part ++ told_at (step_of s) seen r) rs) (part ∷ parts_behind (step_of s) (seen ++ r ∷ []) [] rs))
    go Start e behind =
        mark_ends key (step_of s) part (open_behind (step_of s) seen) (mark_row (codes "start") r) (runs_in key (shown_behind s (seen ++ r ∷ []) rs)) (parts_behind (step_of s) (seen ++ r ∷ []) [] rs) is
        (behind [] (rows_next Start e))
    go (Datagram payload) e behind =
        let o : Open = open_behind (step_of s) seen in
        let ts : List Telling = tellings_of o.back r in
        let later : List Run = runs_in key (shown_behind s (seen ++ r ∷ []) rs) in
        ap (λ (runs : List Run). ended_runs key (step_of s) part ++ (runs ++ later)) (of_tellings key (step_of s) (stamp_of r) (gaps_of o r) o.rows ts)
        ∙ ended_more key (step_of s) part (told_at (step_of s) seen r) o.rows later is
        ∙ behind (part ++ told_at (step_of s) seen r) (rows_next (Datagram payload) e ∙ rows_more (step_of s) (stamp_of r) (gaps_of o r) part o.rows ts is)
    go (Gap missed) e behind =
        let o : Open = open_behind (step_of s) seen in
        let later : List Run = runs_in key (shown_behind s (seen ++ r ∷ []) rs) in
        let none : told_at (step_of s) seen r ≡ [] =
        ap (λ (content : Content). filter_map (told_by (stamp_of r) (gaps_of o r)) (content_tellings o.back r.group content)) e in
        let same : part ++ told_at (step_of s) seen r ≡ part = ap (λ (told : List thin.Told). part ++ told) none ∙ append-nil part in
        ap (λ (runs : List Run). ended_runs key (step_of s) part ++ (runs ++ later)) (of_gap key r.group (closed_by (step_of s) (marks_of o r) (stamp_of r)))
        ∙ ap (λ (told : List thin.Told). ended_runs key (step_of s) told ++ later) (sym same)
        ∙ behind (part ++ told_at (step_of s) seen r) (rows_next (Gap missed) e ∙ is ∙ ap (table_behind (step_of s) []) (sym same))
    go Stop e behind =
        mark_ends key (step_of s) part (open_behind (step_of s) seen) (mark_row (codes "stop") r) (runs_in key (shown_behind s (seen ++ r ∷ []) rs)) (parts_behind (step_of s) (seen ++ r ∷ []) [] rs) is
        (behind [] (rows_next Stop e))

parts_count : (key : Key) (step : ℕ) (parts : List (List thin.Told)) → sum_by count_of (flat_map (part_runs key step) parts) ≡ sum_by (λ (part : List thin.Told). length (readings_of key part)) parts
parts_count key step [] = refl
parts_count key step (part ∷ parts) =
    sum_by-append count_of (part_runs key step part) (flat_map (part_runs key step) parts)
    ∙ (λ i. each_counts step (longest key.kind) (readings_of key part) i + parts_count key step parts i)
    ∙ sym (sum_by-cons (λ (part : List thin.Told). length (readings_of key part)) part parts)

pub run_rows_add_up : RunRowsAddUp
run_rows_add_up words saves records key =
    let s : Survey = survey_of records in
    let runs : runs_in key (shown_behind s [] records) ≡ flat_map (part_runs key (step_of s)) (parts_of (step_of s) records) = follows key s [] records [] refl in
    record { runs = runs; counts = ap (sum_by count_of) runs ∙ parts_count key (step_of s) (parts_of (step_of s) records) }

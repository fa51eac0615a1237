-- No byte of a row begins markup.
use Rattle.std.proofs.Common.{ℕ, Bool, true, false, not, ◌==◌, cond, List, [], ◌∷◌, ◌++◌, codes, get_or, refl, Option, Some, None}
use Rattle.std.specs.List.{flat_map}
use Rattle.vdr_terms.specs.Records.{Content, Record}
use Rattle.vdr_terms.specs.Records.Content.{Start, Datagram, Gap, Stop}
use Rattle.vdr_sources.specs.Tables.{sources_of}
use Rattle.vdr_watch.specs.Supervision.{met_in}
use Rattle.vdr_watch.specs.Texts.{closing_text, record_text}
use Rattle.vdr_visit.specs.Prints.{lines_behind, text_of}
use Rattle.vdr_page.specs.Fields.{Field, field_text, fields_text, keyed_row, row}
use Rattle.vdr_page.specs.Fields.Field.{Number, Text, Made, Missing}
use Rattle.vdr_page.specs.Fronts.{Saved, Words, front_rows, page_row, save_row}
use Rattle.vdr_page.specs.Gaps.{by_name, closed_by, gap_row_if, gap_rows, stamp_of}
use Rattle.vdr_page.specs.Opens.{Open, closing, content_rows, gaps_of, marks_of, open_behind}
use Rattle.vdr_page.specs.Laws.{BlockIsQuiet}
use Rattle.vdr_page.specs.Pages.{closing_rows, data_block, end_row, line_at, page_text, source_row}
use Rattle.vdr_page.specs.Rows.{Load, load_of, load_row, mark_row, part_row, raw_row, sound_row}
use Rattle.vdr_page.specs.Runs.{kind_name, open_row, open_rows, points_text, run_fields, run_row, run_row_if}
use Rattle.vdr_page.specs.Series.{key_of, reading_of, rows_with, telling_text, tellings_text}
use Rattle.vdr_page.specs.Tellings.{Telling, tellings_of}
use Rattle.vdr_page.specs.Tellings.Telling.{Says, Names}
use Rattle.vdr_thin.specs.Runs.{Run, kept}
use Rattle.vdr_thin.specs.Tables.{Row as SeriesRow, ended_in}
use Rattle.vdr_thin.specs.declared.kind.Kind.{Kind}
use Rattle.vdr_thin.specs.declared.kind.Kind.TheVariants.{Value, Position, Ship}
use Rattle.vdr_page.specs.Rows.Load.{Part, Sound, Raw}
use Rattle.vdr_page.specs.Strings.{escaped, inlined, quoted}
use Rattle.vdr_page.specs.Surveys.{step_of, survey_of}
use Rattle.vdr_page.specs.Watched.{line_byte, rows_within, watch_rows}
use Rattle.vdr_page.specs.declared.marks.Marks.{Marks}
use Rattle.vdr_page.specs.declared.survey.Survey.{Survey}
use Rattle.vdr_page.proofs.Quiet.{AreQuiet, all_of, both, each, escaped_quiet, inlined_quiet, none, number_quiet}

string_quiet : (bytes : List ℕ) → AreQuiet (quoted bytes)
string_quiet bytes = both (codes "\"" ++ flat_map escaped bytes) (codes "\"") (both (codes "\"") (flat_map escaped bytes) (all_of (codes "\"") refl) (each escaped escaped_quiet bytes)) (all_of (codes "\"") refl)

field_quiet : (f : Field) → AreQuiet (field_text f)
field_quiet (Number n) = number_quiet n
field_quiet (Text bytes) = string_quiet bytes
field_quiet (Made list) = each inlined inlined_quiet list
field_quiet Missing = all_of (codes "null") refl

led : (f : Field) → AreQuiet (codes "," ++ field_text f)
led f = both (codes ",") (field_text f) (all_of (codes ",") refl) (field_quiet f)

row_quiet : (name : List ℕ) (fields : List Field) → AreQuiet name → AreQuiet (row name fields)
unfolding row
row_quiet name fields quiet =
    both (codes "[\"" ++ name ++ codes "\"" ++ fields_text fields) (codes "],\n")
    (both (codes "[\"" ++ name ++ codes "\"") (fields_text fields) (both (codes "[\"" ++ name) (codes "\"") (both (codes "[\"") name (all_of (codes "[\"") refl) quiet) (all_of (codes "\"") refl)) (each (λ f. codes "," ++ field_text f) led fields))
    (all_of (codes "],\n") refl)

-- ---- the front

save_quiet : (save : Saved) → AreQuiet (save_row save)
save_quiet save = row_quiet (codes "save") _ (all_of (codes "save") refl)

front_quiet : (words : Words) (s : Survey) (saves : List Saved) → AreQuiet (front_rows words s saves)
front_quiet words s saves = both (page_row words s) (flat_map save_row saves) (row_quiet (codes "page") _ (all_of (codes "page") refl)) (each save_row save_quiet saves)

-- ---- a record

gap_quiet : (group : ℕ) (m : Option Marks) → AreQuiet (gap_row_if group m)
gap_quiet group None = none
gap_quiet group (Some m) = row_quiet (codes "gap") _ (all_of (codes "gap") refl)

gaps_quiet : (slots : List (Option Marks)) → AreQuiet (gap_rows slots)
gaps_quiet slots = each (λ g. gap_row_if g (get_or slots g None)) (λ g. gap_quiet g (get_or slots g None)) by_name

if_quiet : (has : Bool) (text : List ℕ) → AreQuiet text → AreQuiet (cond has text [])
if_quiet true text quiet = quiet
if_quiet false text quiet = none

load_quiet : (s : Survey) (r : Record) (load : Load) → AreQuiet (load_row s r load)
load_quiet s r (Part header) = if_quiet s.pictures (part_row r header) (row_quiet (codes "part") _ (all_of (codes "part") refl))
load_quiet s r (Sound frame) = if_quiet s.sound (sound_row r frame) (row_quiet (codes "pcm") _ (all_of (codes "pcm") refl))
load_quiet s r (Raw payload) = if_quiet s.raw (raw_row r payload) (row_quiet (codes "raw") _ (all_of (codes "raw") refl))

-- ---- what readings and names tell

key_quiet : (name key : List ℕ) (fields : List Field) → AreQuiet name → AreQuiet (keyed_row name key fields)
unfolding keyed_row
key_quiet name key fields quiet =
    both (codes "[\"" ++ name ++ codes "\"" ++ flat_map inlined key ++ fields_text fields) (codes "],\n")
    (both (codes "[\"" ++ name ++ codes "\"" ++ flat_map inlined key) (fields_text fields)
    (both (codes "[\"" ++ name ++ codes "\"") (flat_map inlined key) (both (codes "[\"" ++ name) (codes "\"") (both (codes "[\"") name (all_of (codes "[\"") refl) quiet) (all_of (codes "\"") refl)) (each inlined inlined_quiet key))
    (each (λ f. codes "," ++ field_text f) led fields))
    (all_of (codes "],\n") refl)

kind_quiet : (kind : Kind) → AreQuiet (kind_name kind)
kind_quiet Value = all_of (codes "v") refl
kind_quiet Position = all_of (codes "p") refl
kind_quiet Ship = all_of (codes "ship") refl

run_quiet : (kind : Kind) (key : List ℕ) (run : Run) → AreQuiet (run_row kind key run)
run_quiet kind key run = key_quiet (kind_name kind) key (run_fields kind (points_text (kept run)) run) (kind_quiet kind)

ended_quiet : (kind : Kind) (key : List ℕ) (run : Option Run) → AreQuiet (run_row_if kind key run)
ended_quiet kind key None = none
ended_quiet kind key (Some run) = run_quiet kind key run

telling_quiet : (step utc gaps : ℕ) (rows : List SeriesRow) (t : Telling) → AreQuiet (telling_text step utc gaps rows t)
telling_quiet step utc gaps rows (Says s) = ended_quiet s.kind s.key (ended_in step rows (key_of s) (reading_of utc gaps s))
telling_quiet step utc gaps rows (Names formatter mmsi name) = row_quiet (codes "name") _ (all_of (codes "name") refl)

tellings_quiet : (step utc gaps : ℕ) (rows : List SeriesRow) (ts : List Telling) → AreQuiet (tellings_text step utc gaps rows ts)
tellings_quiet step utc gaps rows [] = none
tellings_quiet step utc gaps rows (t ∷ ts) =
    both (telling_text step utc gaps rows t) (tellings_text step utc gaps (rows_with step utc gaps rows t) ts) (telling_quiet step utc gaps rows t) (tellings_quiet step utc gaps (rows_with step utc gaps rows t) ts)

-- ---- a record

going_quiet : (o : Open) → AreQuiet (closing o)
going_quiet o = both (open_rows o.rows) (gap_rows o.marks) (each open_row (λ row. run_quiet row.key.kind row.key.text row.run) o.rows) (gaps_quiet o.marks)

mark_quiet : (name : List ℕ) (r : Record) → AreQuiet name → AreQuiet (mark_row name r)
mark_quiet name r quiet = row_quiet name _ quiet

content_quiet : (s : Survey) (o : Open) (r : Record) (content : Content) → AreQuiet (content_rows s o r content)
content_quiet s o r Start = both (closing o) (mark_row (codes "start") r) (going_quiet o) (mark_quiet (codes "start") r (all_of (codes "start") refl))
content_quiet s o r (Datagram payload) =
    both (load_row s r (load_of payload)) (tellings_text (step_of s) (stamp_of r) (gaps_of o r) o.rows (tellings_of o.back r)) (load_quiet s r (load_of payload)) (tellings_quiet (step_of s) (stamp_of r) (gaps_of o r) o.rows (tellings_of o.back r))
content_quiet s o r (Gap missed) = gap_quiet r.group (closed_by (step_of s) (marks_of o r) (stamp_of r))
content_quiet s o r Stop = both (closing o) (mark_row (codes "stop") r) (going_quiet o) (mark_quiet (codes "stop") r (all_of (codes "stop") refl))

byte_quiet : (within : Bool) (byte : ℕ) → AreQuiet (line_byte within byte)
unfolding line_byte
byte_quiet within byte = both (cond within [] (codes "[\"watch\",\"")) (cond (byte == 10) (codes "\"],\n") (escaped byte)) (begin within) (rest (byte == 10))
  where
    begin : (b : Bool) → AreQuiet (cond b [] (codes "[\"watch\",\""))
    begin true = none
    begin false = all_of (codes "[\"watch\",\"") refl

    rest : (b : Bool) → AreQuiet (cond b (codes "\"],\n") (escaped byte))
    rest true = all_of (codes "\"],\n") refl
    rest false = escaped_quiet byte

watched_quiet : (within : Bool) (text : List ℕ) → AreQuiet (rows_within within text)
watched_quiet within [] = none
watched_quiet within (byte ∷ text) = both (line_byte within byte) (rows_within (not (byte == 10)) text) (byte_quiet within byte) (watched_quiet (not (byte == 10)) text)

line_quiet : (s : Survey) (seen : List Record) (r : Record) → AreQuiet (line_at s seen r)
unfolding line_at
line_quiet s seen r =
    both (content_rows s (open_behind (step_of s) seen) r r.content) (watch_rows (record_text (met_in seen) r)) (content_quiet s (open_behind (step_of s) seen) r r.content) (watched_quiet false (record_text (met_in seen) r))

lines_quiet : (s : Survey) (seen records : List Record) → AreQuiet (lines_behind (line_at s) seen records)
lines_quiet s seen [] = none
lines_quiet s seen (r ∷ rs) = both (line_at s seen r) (lines_behind (line_at s) (seen ++ r ∷ []) rs) (line_quiet s seen r) (lines_quiet s (seen ++ r ∷ []) rs)

-- ---- the end

end_quiet : AreQuiet end_row
unfolding end_row
end_quiet = all_of (codes "[\"end\"]\n") refl

closing_quiet : (s : Survey) (seen : List Record) → AreQuiet (closing_rows s seen)
unfolding closing_rows
closing_quiet s seen =
    let going : List ℕ = closing (open_behind (step_of s) seen) in
    let watched : List ℕ = watch_rows (closing_text seen) in
    let sources : List ℕ = flat_map source_row (sources_of seen) in
    both (going ++ watched ++ sources) end_row
    (both (going ++ watched) sources (both going watched (going_quiet (open_behind (step_of s) seen)) (watched_quiet false (closing_text seen))) (each source_row (λ row. row_quiet (codes "source") _ (all_of (codes "source") refl)) (sources_of seen)))
    end_quiet

block_quiet : (words : Words) (saves : List Saved) (records : List Record) → AreQuiet (data_block words saves records)
unfolding data_block
block_quiet words saves records =
    let s = survey_of records in
    both (front_rows words s saves ++ text_of (line_at s) records) (closing_rows s records) (both (front_rows words s saves) (text_of (line_at s) records) (front_quiet words s saves) (lines_quiet s [] records)) (closing_quiet s records)

pub block_is_quiet : BlockIsQuiet
unfolding page_text
block_is_quiet = record {
  page = λ words saves records. refl;
  quiet = block_quiet;
}

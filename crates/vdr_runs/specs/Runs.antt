-- The runs of the recorder, as records tell them: a run begins with a Start and ends with a Stop (this project's profile).
use Rattle.std.specs.Prelude.{ℕ, ◌+◌, ◌-◌, ◌^◌, ℤ, List, [], ◌∷◌, ◌++◌, codes, decimal, fold, min, Option, Some, None, unwrap_or}
use Rattle.vdr_terms.specs.declared.counts.Counts.{Counts}
use Rattle.vdr_terms.specs.Records.{Content, Record, none_missed}
use Rattle.vdr_terms.specs.Records.Content.{Start, Datagram, Gap, Stop}
use Rattle.vdr_entry.specs.Utc.{utc_text}

-- What the records of a run tell of it so far.
pub record Run : Type 0 where
  pub first : ℕ  -- the place of its first record
  pub last : ℕ  -- the place of its last one
  pub since : Option ℤ  -- the stamp of its first Datagram
  pub until : Option ℤ  -- the stamp of its last Datagram
  pub tick : ℕ  -- of its last record
  pub missed : Counts  -- by its Gaps

-- A sum of counts stands still at the greatest number of 64 bits.
abbrev pub capped : ℕ → ℕ
capped n = min n (2 ^ 64 - 1)

abbrev pub with_gap : Counts → Counts → Counts
with_gap c d = record { full = capped (c.full + d.full); rate = capped (c.rate + d.rate); bad = capped (c.bad + d.bad); large = capped (c.large + d.large) }

-- The run with one more of its records.
abbrev pub said : Content → ℤ → Run → Run
said Start utc run = run
said (Datagram payload) utc run = record run { since = Some (unwrap_or run.since utc); until = Some utc }
said (Gap missed) utc run = record run { missed = with_gap run.missed missed }
said Stop utc run = run

abbrev pub with_record : Run → Record → Run
with_record run r = said r.content r.utc (record run { last = r.place; tick = r.tick })

-- The run that this record begins. A window may begin in the middle of one.
abbrev pub of_first : Record → Run
of_first r = with_record (record { first = r.place; last = r.place; since = None; until = None; tick = r.tick; missed = none_missed }) r

abbrev pub grown : Option Run → Record → Run
grown None r = of_first r
grown (Some run) r = with_record run r

-- The run that goes on behind one more record: none behind a Stop.
abbrev pub goes_on : Content → Option Run → Record → Option Run
goes_on Start current r = Some (of_first r)
goes_on (Datagram payload) current r = Some (grown current r)
goes_on (Gap missed) current r = Some (grown current r)
goes_on Stop current r = None

abbrev pub run_after : Option Run → Record → Option Run
run_after current r = goes_on r.content current r

-- The run that goes on behind these records.
abbrev pub open_behind : Option Run → List Record → Option Run
open_behind current records = fold run_after current records

abbrev pub stamp_text : Option ℤ → List ℕ
stamp_text None = codes "-"
stamp_text (Some utc) = utc_text utc

-- A B FROM TO STATE TICK
unfoldable pub run_line : Run → (state : List ℕ) → List ℕ
run_line run state =
    decimal run.first
    ++ codes " "
    ++ decimal run.last
    ++ codes " "
    ++ stamp_text run.since
    ++ codes " "
    ++ stamp_text run.until
    ++ codes " "
    ++ state
    ++ codes " "
    ++ decimal run.tick
    ++ codes "\n"

-- And below it what the run missed, by cause.
unfoldable pub missed_line : Counts → List ℕ
missed_line c =
    codes "  full "
    ++ decimal c.full
    ++ codes " rate "
    ++ decimal c.rate
    ++ codes " bad "
    ++ decimal c.bad
    ++ codes " large "
    ++ decimal c.large
    ++ codes "\n"

abbrev pub run_text : (state : List ℕ) → Run → List ℕ
run_text state run = run_line run state ++ missed_line run.missed

abbrev pub left_text : (state : List ℕ) → Option Run → List ℕ
left_text state None = []
left_text state (Some run) = run_text state run

-- A run is told where it ends: `closed` by its Stop, `cut` where the next one begins without one.
abbrev pub ended_text : Content → Option Run → Record → List ℕ
ended_text Start current r = left_text (codes "cut") current
ended_text (Datagram payload) current r = []
ended_text (Gap missed) current r = []
ended_text Stop current r = run_text (codes "closed") (grown current r)

abbrev pub record_text : Option Run → Record → List ℕ
record_text current r = ended_text r.content current r

-- What is told behind the last record: the run that goes on is `open`.
abbrev pub closing_text : Option Run → List ℕ
closing_text current = left_text (codes "open") current

abbrev pub records_text : Option Run → List Record → List ℕ
records_text current [] = []
records_text current (r ∷ rs) = record_text current r ++ records_text (run_after current r) rs

-- All runs of these records.
unfoldable pub runs_text : List Record → List ℕ
runs_text records = records_text None records ++ closing_text (open_behind None records)

-- ---- as records come, one after another

-- What is printed at a record behind these: the run that ends with it or before it.
abbrev pub line_at : List Record → Record → List ℕ
line_at seen r = record_text (open_behind None seen) r

-- And behind the last of these.
abbrev pub last_lines : List Record → List ℕ
last_lines seen = closing_text (open_behind None seen)

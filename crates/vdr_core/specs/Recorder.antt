-- What the recorder makes of the items that it takes in a run: pendings, meter, tick and stamp are functions of these
-- items, never state of a definition (this project's profile).
use Rattle.std.specs.Prelude.{ℕ, zero, suc, ◌+◌, max, ℤ, Bool, true, false, cond, List, [], ◌∷◌, ◌++◌, length, fold, ◌==◌}
use Rattle.vdr_terms.specs.declared.counts.Counts.{Counts}
use Rattle.vdr_terms.specs.Records.{Content, Record, total, second}
use Rattle.vdr_terms.specs.Records.Content.{Start, Datagram, Gap, Stop}
use Rattle.vdr_terms.specs.Rates.{is_admitted}
use Rattle.vdr_terms.specs.Channels.{Channels, bits_of}
use Rattle.vdr_core.specs.Runs.{RunStart, base_of, utc_after}
use Rattle.vdr_core.specs.Taken.{Captured}
use Rattle.vdr_terms.specs.Counting.{Pending, no_pending, with_missed, past_datagram, past_refusal}

-- What the recorder has of a run: the greatest `received` and the last utc that it took, each group's pending counts, and all records made.
pub record Recorder : Type 0 where
  pub greatest : ℕ
  pub utc : ℤ
  pub pending : ℕ → Pending
  pub made : List Record

-- A record at the next place, with its bits.
abbrev pub make : Channels → ℕ → ℕ → ℕ → ℕ → ℤ → Content → Record
make channels group place number tick utc content =
    record { content = content; group = group; bits = bits_of channels group content; place = place; number = number; tick = tick; utc = utc }

-- A run that has just begun.
abbrev pub begun : RunStart → Recorder
begun start = record {
  greatest = 0;
  utc = utc_after start.last;
  pending = λ g. no_pending;
  made = make start.channels 255 start.place 0 (base_of start) (utc_after start.last) Start ∷ [];
}

-- The place of the next record.
abbrev pub next_in : RunStart → List Record → ℕ
next_in start made = start.place + length made

-- The tick of what is taken now.
abbrev pub tick_of : RunStart → Recorder → ℕ
tick_of start r = base_of start + r.greatest

-- The Gap of these counts, unless they are all 0.
abbrev pub gap_unless_none : RunStart → ℕ → ℕ → ℕ → ℕ → ℤ → Counts → ℕ → List Record
gap_unless_none start g place first tick utc missed zero = []
gap_unless_none start g place first tick utc missed (suc some) = make start.channels g place first tick utc (Gap missed) ∷ []

-- A group's Gap, where anything is pending.
abbrev pub gap_of : RunStart → ℕ → ℕ → ℕ → ℤ → Pending → List Record
gap_of start g place tick utc p = gap_unless_none start g place p.first tick utc p.missed (total p.missed)

-- An admitted item's Datagram, and before it the Gap.
abbrev pub datagram_of : RunStart → Captured → ℕ → ℕ → Record
datagram_of start c tick place = make start.channels c.group place c.number tick c.utc (Datagram c.bytes)

abbrev pub with_datagram : RunStart → Captured → ℕ → Pending → List Record → List Record
with_datagram start c tick p made =
    let gap = gap_of start c.group (next_in start made) tick c.utc p in
    made ++ (gap ++ datagram_of start c tick (next_in start made + length gap) ∷ [])

-- The pending counts, with this one for group g.
abbrev pub with_pending : (ℕ → Pending) → ℕ → Pending → ℕ → Pending
with_pending pending g p h = cond (h == g) p (pending h)

-- The item is recorded, or counted as refused by the rate.
abbrev pub passed : Bool → RunStart → Captured → ℕ → Recorder → Pending → Recorder
passed true start c tick r p = record {
  greatest = max r.greatest c.received;
  utc = c.utc;
  pending = with_pending r.pending c.group (past_datagram p);
  made = with_datagram start c tick p r.made;
}
passed false start c tick r p = record {
  greatest = max r.greatest c.received;
  utc = c.utc;
  pending = with_pending r.pending c.group (past_refusal p);
  made = r.made;
}

-- The tick of an item that is taken now.
abbrev pub tick_with : RunStart → Recorder → Captured → ℕ
tick_with start r c = base_of start + max r.greatest c.received

abbrev pub admits : RunStart → Recorder → Captured → Bool
admits start r c = is_admitted (start.limits c.group) r.made c.group (second (tick_with start r c)) (length c.bytes)

-- The recorder after one more item: what its port missed before it is pending, and the meter decides.
abbrev pub took : RunStart → Recorder → Captured → Recorder
took start r c = passed (admits start r c) start c (tick_with start r c) r (with_missed c.missed (r.pending c.group))

-- The recorder after these items.
abbrev pub taken_all : RunStart → Recorder → List Captured → Recorder
taken_all start r items = fold (took start) r items

abbrev pub recorder_after : RunStart → List Captured → Recorder
recorder_after start items = taken_all start (begun start) items

-- The closing gaps of the groups below n, in order, with what each port missed at the end.
abbrev pub gaps_below : ℕ → RunStart → Recorder → (ℕ → Counts) → List Record
gaps_below zero start r rest = []
gaps_below (suc g) start r rest =
    gaps_below g start r rest
    ++ gap_of start g (next_in start r.made + length (gaps_below g start r rest)) (tick_of start r) r.utc (with_missed (rest g) (r.pending g))

abbrev pub stop_of : RunStart → Recorder → (ℕ → Counts) → Record
stop_of start r rest = make start.channels 255 (next_in start r.made + length (gaps_below 16 start r rest)) 0 (tick_of start r) r.utc Stop

-- How a run is closed: the closing gaps, then Stop.
abbrev pub closing : RunStart → Recorder → (ℕ → Counts) → List Record
closing start r rest = gaps_below 16 start r rest ++ stop_of start r rest ∷ []

-- The run in which these items were taken, in this order over all groups, and that was closed with these counts.
abbrev pub closed_run : RunStart → List Captured → (ℕ → Counts) → List Record
closed_run start items rest = (recorder_after start items).made ++ closing start (recorder_after start items) rest

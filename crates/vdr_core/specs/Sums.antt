-- What a run adds up to, group by group: a summary tells these sums (this project's profile).
use Rattle.std.specs.Prelude.{ℕ, ◌+◌, ◌≡◌, List, length, count_by, sum_by}
use Rattle.vdr_terms.specs.declared.counts.Counts.{Counts}
use Rattle.vdr_terms.specs.Records.{Content, Record, Item, none_missed, total, records_of, datagrams_of}
use Rattle.vdr_terms.specs.Records.Content.{Start, Datagram, Gap, Stop}
use Rattle.vdr_terms.specs.Datagrams.{verdict, is_bad, is_large}
use Rattle.vdr_terms.specs.Counting.{merged}
use Rattle.vdr_core.specs.Taken.{Captured}
use Rattle.vdr_core.specs.Recorder.{Recorder}

-- The counts of a Gap. Another record says of nothing that it was missed.
abbrev pub missed_of : Content → Counts
missed_of (Gap missed) = missed
missed_of Start = none_missed
missed_of (Datagram payload) = none_missed
missed_of Stop = none_missed

-- The sum of counts, cause by cause.
abbrev pub sum_counts : {X : Type 0} → (X → Counts) → List X → Counts
sum_counts counts xs = record {
  full = sum_by (λ x. (counts x).full) xs;
  rate = sum_by (λ x. (counts x).rate) xs;
  bad = sum_by (λ x. (counts x).bad) xs;
  large = sum_by (λ x. (counts x).large) xs;
}

-- What the Gaps of a group say was missed.
abbrev pub missed_in : ℕ → List Record → Counts
missed_in g records = sum_counts (λ r. missed_of r.content) (records_of g records)

-- How many items of a group are recorded.
abbrev pub recorded_in : ℕ → List Record → ℕ
recorded_in g records = length (datagrams_of g records)

-- What a port missed before each of these items of its queue.
abbrev pub missed_before : List Captured → Counts
missed_before queue = sum_counts (λ c. c.missed) queue

-- What the recorder has counted of a group: in the Gaps that it made, and pending.
abbrev pub counted_by : Recorder → ℕ → Counts
counted_by r g = merged (missed_in g r.made) (r.pending g).missed

-- The sums of a group over a run in which its port gave these items, so many were popped from its queue, and its queue
-- was full so many times: each item was recorded or counted once.
pub record Sums (g : ℕ) (given : List Item) (popped full_steps : ℕ) (run : List Record) : Type 0 where
  pub all : length given ≡ recorded_in g run + total (missed_in g run)
  pub passed : popped ≡ recorded_in g run + (missed_in g run).rate
  pub full : (missed_in g run).full ≡ full_steps
  pub bad : (missed_in g run).bad ≡ count_by (λ i. is_bad (verdict i.bytes)) given
  pub large : (missed_in g run).large ≡ count_by (λ i. is_large (verdict i.bytes)) given

-- What the recorder has counted and recorded of a group is what its port missed before the items that were popped, and
-- these items: each of them was recorded, or counted as refused by the rate.
pub record AddsUp (g : ℕ) (popped : List Captured) (r : Recorder) : Type 0 where
  pub full : (counted_by r g).full ≡ (missed_before popped).full
  pub bad : (counted_by r g).bad ≡ (missed_before popped).bad
  pub large : (counted_by r g).large ≡ (missed_before popped).large
  pub passed : recorded_in g r.made + (counted_by r g).rate ≡ length popped + (missed_before popped).rate

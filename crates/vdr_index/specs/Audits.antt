-- Whether the batches of a segment agree with the summary in its header, and where they do not (this project's profile).
use Rattle.std.specs.Prelude.{◌≡◌, ◌⊎◌, ◌<◌, ◌≤◌, ◌+◌, ℕ, true, int_le, List, ◌++◌, length, drop, sum_by, All, Some}
use Rattle.std.specs.List.{flat_map}
use Rattle.vdr_terms.specs.Records.{Record, second}
use Rattle.vdr_terms.specs.Order.{RunOn, NeverFalls}
use Rattle.vdr_terms.specs.Queries.{has_channel}
use Rattle.vdr_terms.specs.Sizes.{batch_size}
use Rattle.vdr_entry.specs.declared.summary.Summary.{Summary}
use Rattle.vdr_segment.specs.Gates.{IsOpenAt}
use Rattle.vdr_segment.specs.Batches.{IsBatch, HasBatchAt, batch_bytes}
use Rattle.vdr_segment.specs.Walks.{Walks}
use Rattle.vdr_segment.specs.declared.step.Walk.TheVariants.{Broken}
use Rattle.vdr_index.specs.Extents.{records_in}

-- A record is within a summary of its segment.
pub record IsCovered (s : Summary) (r : Record) : Type 0 where
  pub no_earlier : s.first_second ≤ second r.tick
  pub no_later : second r.tick ≤ s.last_second
  pub least : int_le s.least_utc r.utc ≡ true
  pub greatest : int_le r.utc s.greatest_utc ≡ true
  pub bits : (k : ℕ) → has_channel (Some k) r.bits ≡ true → has_channel (Some k) s.bits ≡ true

-- All that some records have in common is within a summary. No public clause cites it.
pub record Covers (s own : Summary) : Type 0 where
  pub first : s.first_second ≤ own.first_second
  pub ends : own.last_second ≤ s.last_second
  pub least : int_le s.least_utc own.least_utc ≡ true
  pub greatest : int_le own.greatest_utc s.greatest_utc ≡ true
  pub bits : (k : ℕ) → has_channel (Some k) own.bits ≡ true → has_channel (Some k) s.bits ≡ true

-- The first records of a segment whose first place is `first` agree with its summary: they run on from that place and stay
-- below it plus the count, their ticks do not fall, and each is within the summary.
pub record AreWithin (first : ℕ) (s : Summary) (records : List Record) : Type 0 where
  pub places : RunOn first records
  pub ticks : NeverFalls 0 records
  pub count : length records ≤ s.count
  pub covered : All (IsCovered s) records

-- The batches of a segment agree with its summary: their records do, and there are as many as it counts.
pub record Agree (first : ℕ) (s : Summary) (batches : List (List Record)) : Type 0 where
  pub within : AreWithin first s (records_in batches)
  pub count : s.count ≡ length (records_in batches)

-- Behind these records of a segment, at this offset, there stands a batch that is not legal, or one that does not agree with
-- the summary, or none though it counts more records.
abbrev pub Fails : List ℕ → (at first : ℕ) → Summary → List Record → Type 0
Fails segment at first s records =
    Walks segment at Broken
    ⊎ (((batch : List Record) × HasBatchAt segment at batch × (AreWithin first s (records ++ batch) → ⊥))
    ⊎ ((IsOpenAt segment at → ⊥) × (length records < s.count)))

-- The first batch of a segment that is not legal or does not agree with its summary is at this offset, or its batches end
-- there with too few records. Those before it agree.
pub record DisagreesAt (segment : List ℕ) (first : ℕ) (s : Summary) (at : ℕ) : Type 0 where
  pub front : List (List Record)
  pub legal : All IsBatch front
  pub spelled : drop 64 segment ≡ flat_map batch_bytes front ++ drop at segment
  pub behind : at ≡ 64 + sum_by batch_size front
  pub inside : at < length segment
  pub within : AreWithin first s (records_in front)
  pub fails : Fails segment at first s (records_in front)

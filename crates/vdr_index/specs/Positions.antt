-- Where a reader of records stands in a segment, and what is ahead of it.
use Rattle.std.specs.Prelude.{◌≡◌, ◌≤◌, ◌<◌, ◌↔◌, ℕ, List, ◌∷◌, ◌++◌, length, drop, slice_range}
use Rattle.vdr_terms.specs.Records.{Record}
use Rattle.vdr_terms.specs.Legality.{IsRecord}
use Rattle.vdr_segment.specs.Batches.{AreRecords}
use Rattle.vdr_segment.specs.Segments.{AreBatches}
use Rattle.vdr_segment.specs.Walks.{Walks}
use Rattle.vdr_segment.specs.declared.step.Walk.TheVariants.{Broken}
use Rattle.vdr_index.specs.declared.position.Position.{Position}
use Rattle.vdr_index.specs.Extents.{records_in}

-- Before the first batch.
abbrev pub front : Position
front = record { at = 64; to = 64 }

-- A reader may stand here: legal records, or none, are left of its batch, and a gate stands behind them.
pub record IsAt (segment : List ℕ) (p : Position) : Type 0 where
  pub order : p.at ≤ p.to
  pub inside : p.to < length segment
  pub left : List Record
  pub here : AreRecords (slice_range segment p.at p.to) left

-- These records are ahead: what is left of the batch, and then the batches behind it.
pub record HasAhead (segment : List ℕ) (p : Position) (records : List Record) : Type 0 where
  pub left : List Record
  pub batches : List (List Record)
  pub here : AreRecords (slice_range segment p.at p.to) left
  pub behind : AreBatches (drop p.to segment) batches
  pub are : records ≡ left ++ records_in batches

-- No record is left of the batch, and the next one is not legal.
pub record IsBrokenAt (segment : List ℕ) (p : Position) : Type 0 where
  pub ended : p.at ≡ p.to
  pub broken : Walks segment p.to Broken

-- A step from one position over a record to the next: the record is the first of those ahead, and the others are ahead of
-- the next position.
pub record StepsOver (segment : List ℕ) (p : Position) (r : Record) (next : Position) : Type 0 where
  pub legal : IsRecord r
  pub stands : IsAt segment next
  pub onward : p.at < next.at
  pub ahead : (records : List Record) → HasAhead segment p records ↔ ((more : List Record) × (records ≡ r ∷ more) × HasAhead segment next more)

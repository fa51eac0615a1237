-- What a segment gives whose batches may be damaged: of those up to the first that is not legal, the records that have the place at which
-- they stand (this project's profile).
use Rattle.std.specs.Prelude.{min, nat_le, filter, ◌≡◌, ◌≤◌, ◌<◌, ◌+◌, ◌^◌, ◌↔◌, ◌==◌, if◌then◌else◌, ℕ, List, [], ◌∷◌, ◌++◌, length, slice_range}
use Rattle.vdr_terms.specs.Records.{Record}
use Rattle.vdr_terms.specs.Legality.{IsRecord}
use Rattle.vdr_terms.specs.Sizes.{batch_size}
use Rattle.vdr_segment.specs.Batches.{AreRecords, HasBatchAt}
use Rattle.vdr_index.specs.declared.position.Position.{Position}
use Rattle.vdr_index.specs.Positions.{IsAt}
use Rattle.vdr_index.specs.Extents.{records_in}
use Rattle.vdr_rescue.specs.declared.given.Stand.{Stand}

-- From this offset of a segment on legal batches stand, one behind another, and no further one behind the last.
abbrev pub AreLegalFrom : List ℕ → ℕ → List (List Record) → Type 0
AreLegalFrom segment at [] = (records : List Record) → HasBatchAt segment at records → ⊥
AreLegalFrom segment at (batch ∷ batches) = HasBatchAt segment at batch × AreLegalFrom segment (at + batch_size batch) batches

-- Of records from this place on, those that have their place.
abbrev pub in_place : ℕ → List Record → List Record
in_place place [] = []
in_place place (r ∷ rs) = if r.place == place then r ∷ in_place (place + 1) rs else in_place (place + 1) rs

-- A segment with this first place gives these records.
pub record GivenBy (segment : List ℕ) (first : ℕ) (records : List Record) : Type 0 where
  pub batches : List (List Record)
  pub legal : AreLegalFrom segment 64 batches
  pub are : records ≡ in_place first (records_in batches)

-- These records are ahead of a position: what is left of its batch, and then the legal batches behind it.
pub record HasLegally (segment : List ℕ) (p : Position) (records : List Record) : Type 0 where
  pub left : List Record
  pub batches : List (List Record)
  pub here : AreRecords (slice_range segment p.at p.to) left
  pub behind : AreLegalFrom segment p.to batches
  pub are : records ≡ left ++ records_in batches

-- A step from one position over a record to the next.
pub record StepsOn (segment : List ℕ) (p : Position) (r : Record) (next : Position) : Type 0 where
  pub legal : IsRecord r
  pub stands : IsAt segment next
  pub onward : p.at < next.at
  pub ahead : (records : List Record) → HasLegally segment p records ↔ ((more : List Record) × (records ≡ r ∷ more) × HasLegally segment next more)

-- A reader may stand so. Its place leaves room for all that may come in a segment.
pub record Stands (segment : List ℕ) (s : Stand) : Type 0 where
  pub position : IsAt segment s.position
  pub short : length segment ≤ 2 ^ 24
  pub place : s.place < 2 ^ 63 + s.position.at

-- Before the first record of a segment with this first place. No record has a place of 2^63 or above.
abbrev pub front : ℕ → Stand
front first = record { position = record { at = 64; to = 64 }; place = min first (2 ^ 63) }

-- What is given from there on.
pub record Gives (segment : List ℕ) (s : Stand) (records : List Record) : Type 0 where
  pub all : List Record
  pub ahead : HasLegally segment s.position all
  pub are : records ≡ in_place s.place all

-- The records whose places are not below the floor.
abbrev pub above : (floor : ℕ) → List Record → List Record
above floor records = filter (λ r. nat_le floor r.place) records

-- What is given from there on, of places not below the floor.
pub record GivesAbove (segment : List ℕ) (s : Stand) (floor : ℕ) (records : List Record) : Type 0 where
  pub all : List Record
  pub gives : Gives segment s all
  pub are : records ≡ above floor all

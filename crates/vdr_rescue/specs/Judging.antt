-- Where a segment is damaged that is read behind others (this project's profile).
use Rattle.std.specs.Prelude.{◌≡◌, ◌⊎◌, ℕ, Bool, true, false, nat_lt, not, ◌||◌, List, take, drop, Option, Some, None}
use Rattle.vdr_terms.specs.Records.{Record}
use Rattle.vdr_terms.specs.Order.{RunOn, NeverFalls}
use Rattle.vdr_segment.specs.declared.header.Header.{Header}
use Rattle.vdr_segment.specs.Gates.{IsOpenAt}
use Rattle.vdr_segment.specs.Headers.{IsHeader}
use Rattle.vdr_segment.specs.Segments.{AreBatches}
use Rattle.vdr_index.specs.Extents.{records_in}
use Rattle.vdr_index.specs.Surveys.{BreaksAt}
use Rattle.vdr_ring.specs.Damage.{IsDamagedAt, IsIntact}
use Rattle.vdr_rescue.specs.declared.fronts.Head.{Head}

-- Its batches are legal, and their places do not run on from its first one, or their ticks fall.
pub record AreOff (bytes : List ℕ) (first : ℕ) : Type 0 where
  pub batches : List (List Record)
  pub are : AreBatches (drop 64 bytes) batches
  pub off : RunOn first (records_in batches) × NeverFalls 0 (records_in batches) → ⊥

-- So they are in an open slot, and its header has no summary.
pub record IsOutOfOrder (bytes : List ℕ) : Type 0 where
  pub opened : IsOpenAt bytes 0
  pub header : Header
  pub is : IsHeader (take 64 bytes) header
  pub bare : header.summary ≡ None
  pub off : AreOff bytes header.first

-- Where it is damaged by itself, if it is: where a play of both media says so too, else in its header.
abbrev pub JudgesAlone : (bytes : List ℕ) → Option ℕ → Type 0
JudgesAlone bytes (Some at) = IsDamagedAt bytes at ⊎ (IsIntact bytes × IsOutOfOrder bytes × (at ≡ 0))
JudgesAlone bytes None = IsIntact bytes × (IsOutOfOrder bytes → ⊥)

-- The same of a segment without a summary, by its first place.
abbrev pub JudgesBare : (bytes : List ℕ) (first : ℕ) → Option ℕ → Type 0
JudgesBare bytes first (Some at) = BreaksAt bytes at ⊎ (AreOff bytes first × (at ≡ 0))
JudgesBare bytes first None = ((batches : List (List Record)) × AreBatches (drop 64 bytes) batches) × (AreOff bytes first → ⊥)

-- The sequence number is not above that of the segment that was read before.
abbrev pub falls_behind : (before : Option ℕ) → (seq : ℕ) → Bool
falls_behind None seq = false
falls_behind (Some earlier) seq = not (nat_lt earlier seq)

-- Its numbers are out of order: its sequence number falls behind or is above its first place, or that place is below the floor, which is
-- behind all places that were given before.
abbrev pub strays : (before : Option ℕ) → (floor : ℕ) → Head → Bool
strays before floor head = falls_behind before head.seq || (nat_lt head.first floor || nat_lt head.first head.seq)

-- Where it is damaged, if it is: by itself, else in its header, where it strays.
abbrev pub Judges : (bytes : List ℕ) (before : Option ℕ) (floor : ℕ) → Head → Option ℕ → Type 0
Judges bytes before floor head (Some at) = JudgesAlone bytes (Some at) ⊎ (JudgesAlone bytes None × (strays before floor head ≡ true) × (at ≡ 0))
Judges bytes before floor head None = JudgesAlone bytes None × (strays before floor head ≡ false)

-- Which segment goes where a new one needs its slot (this project's profile).
use Rattle.std.specs.Prelude.{ℕ, ◌+◌, ◌≤◌, ◌≡◌, Bool, List, ◌∷◌, ◌++◌, [], length, All, Contains, ◌&&◌, ◌||◌, not, ◌==◌, nat_lt, nat_le, if◌then◌else◌, Some}
use Rattle.std.specs.List.{list_all}
use Rattle.vdr_terms.specs.Records.{Record, second, last}
use Rattle.vdr_terms.specs.Order.{RunOn}
use Rattle.vdr_terms.specs.Needs.{Sizes}
use Rattle.vdr_durability.specs.Layout.{Batches, segment_records, records_in}
use Rattle.vdr_durability.specs.Retention.{Pin, at_places, AreOutside, HaveNoPlace}

-- A candidate: a segment whose records are all outside the window of what the medium holds, and of which none has a
-- pinned place.
pub record MayGo (seconds : ℕ) (pins : List Pin) (held : List Record) (segment : Batches) : Type 0 where
  pub old : AreOutside seconds held (segment_records segment)
  pub free : All (λ pin. HaveNoPlace pin.a pin.b (segment_records segment)) pins

-- None of these segments may go from a medium that holds these records.
abbrev pub NoneMayGo : ℕ → List Pin → List Record → List Batches → Type 0
NoneMayGo seconds pins held segments = All (λ segment. MayGo seconds pins held segment → ⊥) segments

-- The victim is the candidate of least sequence number: the segments stand in that order.
pub record IsOldestCandidate (seconds : ℕ) (pins : List Pin) (segments before : List Batches) (victim : Batches) (after : List Batches) : Type 0 where
  pub split : segments ≡ before ++ victim ∷ after
  pub may_go : MayGo seconds pins (records_in segments) victim
  pub oldest : NoneMayGo seconds pins (records_in segments) before

pub record HasCandidate (seconds : ℕ) (pins : List Pin) (segments : List Batches) : Type 0 where
  pub before : List Batches
  pub victim : Batches
  pub after : List Batches
  pub oldest : IsOldestCandidate seconds pins segments before victim after

-- A medium on which no segment may go.
abbrev pub HasNoCandidate : ℕ → List Pin → List Batches → Type 0
HasNoCandidate seconds pins segments = NoneMayGo seconds pins (records_in segments) segments

-- The victim is one of the older segments, not the newest.
pub record HasVictim (seconds : ℕ) (pins : List Pin) (older : List Batches) (newest : Batches) : Type 0 where
  pub before : List Batches
  pub victim : Batches
  pub after : List Batches
  pub split : older ≡ before ++ victim ∷ after
  pub oldest : IsOldestCandidate seconds pins (older ++ newest ∷ []) before victim (after ++ newest ∷ [])

-- The seconds of any two of these are no further apart than so many.
abbrev pub SpansAtMost : ℕ → List Record → Type 0
SpansAtMost seconds records = (r s : Record) → Contains records r → Contains records s → second s.tick ≤ second r.tick + seconds

-- Pins that a configuration allows: on the long-term medium one for each live save, and each save's records span no more
-- seconds than an incident; on another medium none.
pub record ArePinsOf (sizes : Sizes) (m : ℕ) (held : List Record) (pins : List Pin) : Type 0 where
  pub few : length pins ≤ (if m == 1 then sizes.incidents else 0)
  pub short : (pin : Pin) → Contains pins pin → SpansAtMost sizes.incident_seconds (at_places pin.a pin.b held)

-- The second of the last of these records, where there is one.
abbrev pub IsLastSecond : ℕ → List Record → Type 0
IsLastSecond s records = (newest : Record) → last records ≡ Some newest → s ≡ second newest.tick

-- What is known of a segment without reading its records.
pub record Extent : Type 0 where
  pub has_records : Bool
  pub first : ℕ  -- the first place
  pub next : ℕ  -- the place after its last record
  pub last_second : ℕ  -- of its last record

-- The extent is that of these records, whose places run on.
pub record IsExtent (extent : Extent) (records : List Record) : Type 0 where
  pub some : extent.has_records ≡ nat_lt 0 (length records)
  pub places : RunOn extent.first records
  pub ends : extent.next ≡ extent.first + length records
  pub seconds : IsLastSecond extent.last_second records

-- The segment has no pinned place: it has no records, the pin no place, or all its places are before these or behind them.
abbrev pub is_apart : Extent → Pin → Bool
is_apart extent pin = not extent.has_records || (nat_lt pin.b pin.a || (nat_lt pin.b extent.first || nat_le extent.next pin.a))

-- Whether the segment may go, where the medium's last record is of this second.
abbrev pub may_go_by_numbers : ℕ → List Pin → ℕ → Extent → Bool
may_go_by_numbers seconds pins medium_second extent =
    (not extent.has_records || nat_le (extent.last_second + seconds) medium_second) && list_all (is_apart extent) pins

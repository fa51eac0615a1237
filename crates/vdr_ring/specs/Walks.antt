-- A cursor over the records of a medium, segment by segment, and what is ahead of it.
use Rattle.std.specs.Prelude.{◌≡◌, ◌≢◌, ◌<◌, ◌+◌, ◌-◌, ◌*◌, ◌^◌, ℕ, suc, Bool, true, false, List, [], ◌∷◌, ◌++◌, get_or, option_map, Option, Some, None, IfSome, Result, Ok, Err}
use Rattle.vdr_terms.specs.Records.{Record}
use Rattle.vdr_terms.specs.Queries.{Query, Span}
use Rattle.vdr_durability.specs.Playback.{found}
use Rattle.vdr_outside.specs.Causes.{NoneFalls}
use Rattle.vdr_outside.specs.Disk.{Disk, Unchanged}
use Rattle.vdr_directory.specs.Sequence.{Placed, seq_of, all_records}
use Rattle.vdr_ring.specs.Rings.{RingState, Reads}
use Rattle.vdr_index.specs.Positions.{front}
use Rattle.vdr_ring.specs.Visits.{HasJudged, IsLoaded, StandsIn, position_in, slot_read}
use Rattle.vdr_ring.specs.Visits as visits
use Rattle.vdr_ring.specs.declared.refused.ReadRefused.{ReadRefused}
use Rattle.vdr_ring.specs.declared.refused.ReadRefused.TheVariants.{Fault, Damaged}
use Rattle.vdr_ring.specs.declared.cursor.Standing.{Standing}

-- The segment in which a cursor stands, if any, and a cursor of the ring there.
pub record CursorState : Type 0 where
  pub standing : Option Standing
  pub visit : visits.VisitState

-- A cursor before the first record.
abbrev pub new_cursor : CursorState
new_cursor = record { standing = None; visit = record { slot = None; position = front; item = None } }

-- The cursor may step on this ring: its slot is one of the ring's, and it stands rightly in the slot that is loaded.
pub record MayStep (ring : RingState) (c : CursorState) : Type 0 where
  pub within : IfSome c.standing (λ s. s.slot < ring.slots)
  pub stands : StandsIn ring c.visit

-- What the slots read as: the bytes of each.
abbrev pub Slots : Type 0
Slots = ℕ → List ℕ

-- The cursor stands in one of these segments, and ahead are these records in it and then those of the later segments.
pub record IsWithin (slots : Slots) (placed : List Placed) (s : Standing) (visit : visits.VisitState) (here ahead : List Record) : Type 0 where
  pub before : List Placed
  pub own : Placed
  pub later : List Placed
  pub split : placed ≡ before ++ own ∷ later
  pub slot : own.slot ≡ s.slot
  pub seq : seq_of own ≡ s.seq
  pub in_slot : visits.AreAhead (slots s.slot) placed s.slot visit here
  pub are : ahead ≡ here ++ all_records later

-- A cursor that stands in no segment has all records ahead.
abbrev pub IsBefore : Slots → List Placed → Option Standing → visits.VisitState → List Record → Type 0
IsBefore slots placed None visit ahead = ahead ≡ all_records placed
IsBefore slots placed (Some s) visit ahead = (here : List Record) × IsWithin slots placed s visit here ahead

-- These records of a medium are ahead of the cursor: its last ones.
pub record AreAhead (slots : Slots) (placed : List Placed) (c : CursorState) (ahead : List Record) : Type 0 where
  pub passed : List Record
  pub split : all_records placed ≡ passed ++ ahead
  pub from : IsBefore slots placed c.standing c.visit ahead

-- None of them is in the segment in which it stands.
abbrev pub IsBehind : Slots → List Placed → Option Standing → visits.VisitState → List Record → Type 0
IsBehind slots placed None visit ahead = ahead ≡ all_records placed
IsBehind slots placed (Some s) visit ahead = IsWithin slots placed s visit [] ahead

pub record AreBehind (slots : Slots) (placed : List Placed) (c : CursorState) (ahead : List Record) : Type 0 where
  pub passed : List Record
  pub split : all_records placed ≡ passed ++ ahead
  pub from : IsBehind slots placed c.standing c.visit ahead

-- A step answers the first of the records that were to come, and the others are then; or there is none. After a fault they are
-- still to come.
abbrev pub GivesNext : List Record → Result Bool ReadRefused → (item : Option Record) → (ToCome : List Record → Type 0) → Type 0
GivesNext records (Ok true) item ToCome = (r : Record) × (more : List Record) × (records ≡ r ∷ more) × (item ≡ Some r) × ToCome more
GivesNext records (Ok false) item ToCome = (records ≡ []) × (item ≡ None) × ToCome []
GivesNext records (Err Fault) item ToCome = (item ≡ None) × ToCome records
GivesNext records (Err (Damaged m offset)) item ToCome = ⊥

-- A step in one segment, after which none may be ahead in it.
abbrev pub GivesHere : List Record → Result Bool ReadRefused → (item : Option Record) → (Ahead Behind : List Record → Type 0) → Type 0
GivesHere ahead (Ok true) item Ahead Behind = (r : Record) × (more : List Record) × (ahead ≡ r ∷ more) × (item ≡ Some r) × Ahead more
GivesHere ahead (Ok false) item Ahead Behind = (item ≡ None) × Behind ahead
GivesHere ahead (Err Fault) item Ahead Behind = (item ≡ None) × Ahead ahead
GivesHere ahead (Err (Damaged m offset)) item Ahead Behind = ⊥

abbrev pub seq_in : Option Standing → Option ℕ
seq_in standing = option_map (λ s. s.seq) standing

-- How many sequence numbers there are above that of the segment in which a cursor stands.
abbrev pub segments_left : Option Standing → ℕ
segments_left None = 2 ^ 64
segments_left (Some s) = 2 ^ 64 - suc s.seq

-- How far a cursor has come in its segment, in bytes of the slot: below 2^24.
abbrev pub reached_in : Option Standing → visits.VisitState → ℕ
reached_in None visit = 0
reached_in (Some s) visit = (position_in s.slot visit).at

-- A bound of the steps to a record that a cursor has left. Each such step lowers it.
abbrev pub steps_left : CursorState → ℕ
steps_left c = segments_left c.standing * 2 ^ 24 + (2 ^ 24 - reached_in c.standing c.visit)

-- These are left of what a query selects of its span.
pub record AreLeft (slots : Slots) (placed : List Placed) (query : Query) (span : Option Span) (c : CursorState) (records : List Record) : Type 0 where
  pub ahead : List Record
  pub are_ahead : AreAhead slots placed c ahead
  pub are : records ≡ found query span ahead

-- The same, where none is in the segment in which the cursor stands.
pub record AreLeftBehind (slots : Slots) (placed : List Placed) (query : Query) (span : Option Span) (c : CursorState) (records : List Record) : Type 0 where
  pub ahead : List Record
  pub are_behind : AreBehind slots placed c ahead
  pub are : records ≡ found query span ahead

-- No byte of another medium than m was read, and no count of faults falls.
pub record CountsOn (m : ℕ) (read_before read_now faults_before faults_now : List ℕ) : Type 0 where
  pub others : (k : ℕ) → k ≢ m → get_or read_now k 0 ≡ get_or read_before k 0
  pub later : NoneFalls faults_before faults_now

module _ {tells tells_images : Type 0} where
  -- What each slot of a ring reads as.
  abbrev pub slots_read : RingState → Disk tells tells_images → Slots
  slots_read ring disk = λ slot. slot_read ring slot disk

  -- A ring has read of its medium: only its buffer may have changed.
  pub record HasRead (old new : RingState) (before now : Disk tells tells_images) : Type 0 where
    pub ring : new ≡ record old { buffer = new.buffer; loaded = new.loaded }
    pub unchanged : Unchanged before now
    pub bytes : IsLoaded old before → IsLoaded new now
    pub judged : HasJudged old before → HasJudged new now
    pub reads : (placed : List Placed) → Reads old placed before → Reads new placed now

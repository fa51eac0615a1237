-- A play that is read in parts, with other events between them: the places that are still to be read.
use Rattle.std.specs.Prelude.{◌≡◌, ◌⊎◌, ◌≤◌, ◌<◌, ℕ, min, Bool, true, false, List, Option, None, Some, Result, Ok, Err}
use Rattle.vdr_terms.specs.Records.{Record, last}
use Rattle.vdr_terms.specs.Queries.{Query}
use Rattle.vdr_terms.specs.Queries.Span.{Places}
use Rattle.vdr_core.specs.Histories.{Event, Incident, Opening, all_records}
use Rattle.vdr_durability.specs.Playback.{found, medium_of, selected}
use Rattle.vdr_outside.specs.Disk.{Disk}
use Rattle.vdr_outside.specs.declared.media.Media.{Ghosts as MediaTells}
use Rattle.vdr_directory.specs.Sequence.{Placed}
use Rattle.vdr_ring.specs.Budgets.{Spends, budget}
use Rattle.vdr_ring.specs.Visits.{StandsAmong}
use Rattle.vdr_ring.specs.Walks.{AreLeft, CursorState, slots_read, steps_left}
use Rattle.vdr_ring.specs.declared.refused.ReadRefused.{ReadRefused}
use Rattle.vdr_ring.specs.declared.refused.ReadRefused.TheVariants.{Damaged, Fault}
use Rattle.vdr_vault.specs.Plays.{HasReadCause, ReadsNoOther, ring_for}
use Rattle.vdr_vault.specs.Saves.{first_in_window}
use Rattle.vdr_vault.specs.Vaults.{AreJudged, IsDamagedOn, VaultState}
use Rattle.vdr_vault.specs.declared.stretch.Stretch.{Stretch}

-- What the query selects of a history at the places of a stretch.
abbrev pub still_selected : Opening → List Event → Query → Stretch → List Record
still_selected opening events query s = found query (Some (Places s.next s.last)) (all_records opening (medium_of query.medium) events)

-- No later event records anything at these places: there is none, or the last record of the history is at the last one or behind it.
abbrev pub IsClosed : Opening → List Event → Query → Stretch → Type 0
IsClosed opening events query s = (s.last < s.next) ⊎ ((newest : Record) × (last (all_records opening (medium_of query.medium) events) ≡ Some newest) × (s.last ≤ newest.place))

-- A query selects of a history just what it selects at the places of a stretch.
pub record IsWhole (opening : Opening) (events : List Event) (query : Query) (s : Stretch) : Type 0 where
  pub selects : selected opening events query ≡ still_selected opening events query s
  pub closed : IsClosed opening events query s

-- The places of a live incident, up to the last record's; or none.
abbrev pub IsIncidentOf : Option Incident → (newest : Option Record) → Stretch → Type 0
IsIncidentOf None newest s = s.last < s.next
IsIncidentOf (Some incident) None s = s.last < s.next
IsIncidentOf (Some incident) (Some newest) s = (s.next ≡ incident.a) × (s.last ≡ min incident.b newest.place)

-- The places from the first record in the window of so many seconds to the last one, or none where there is no record.
abbrev pub IsWindowFrom : ℕ → List Record → Option Record → Stretch → Type 0
IsWindowFrom seconds records None s = s.last < s.next
IsWindowFrom seconds records (Some newest) s = (first_in_window seconds records ≡ Some s.next) × (s.last ≡ newest.place)

abbrev pub IsWindowOf : ℕ → List Record → Stretch → Type 0
IsWindowOf seconds records s = IsWindowFrom seconds records (last records) s

-- From the record to which a first step came to this last place; no place where it came to none.
abbrev pub HasBegun : Result Bool ReadRefused → (item : Option Record) → (newest : ℕ) → Result Stretch ReadRefused → Type 0
HasBegun (Ok true) None newest result = (s : Stretch) × (result ≡ Ok s)
HasBegun (Ok true) (Some r) newest result = result ≡ Ok (record { next = r.place; last = newest })
HasBegun (Ok false) item newest result = (s : Stretch) × (result ≡ Ok s)
HasBegun (Err refused) item newest result = result ≡ Err refused

-- Damage that is named is on the query's medium, where one of its slots is not intact.
pub record NamesDamageOf {tells tells_images : Type 0} (query : Query) (vault : VaultState) (disk : Disk tells tells_images) (Names : (m offset : ℕ) → Type 0) : Type 0 where
  -- damage is on the query's medium
  pub medium : (m offset : ℕ) → Names m offset → m ≡ medium_of query.medium
  -- where one of its slots is not intact
  pub damaged : (m offset : ℕ) → Names m offset → tells → AreJudged vault disk → IsDamagedOn vault.config disk m offset

-- How the cursor of a part stands after a step, what damage it names, and what it reads.
pub record StepsWithin {M : Type 0} (media : MediaTells M) (query : Query) (part : Stretch) (old new : VaultState) (from to : CursorState) (before after : M) (result : Result Bool ReadRefused) : Type 0 where
  -- it stands between the records of its slot, as it did
  pub among : media.tells → AreJudged old (media.disk before) → StandsAmong (ring_for old query) (media.disk before) from.visit → StandsAmong (ring_for new query) (media.disk after) to.visit
  -- damage is on the query's medium
  pub medium : (m offset : ℕ) → result ≡ Err (Damaged m offset) → m ≡ medium_of query.medium
  -- where one of its slots is not intact
  pub damaged : (m offset : ℕ) → result ≡ Err (Damaged m offset) → media.tells → AreJudged old (media.disk before) → StandsAmong (ring_for old query) (media.disk before) from.visit
      → IsDamagedOn old.config (media.disk before) m offset
  -- it reads no more than was in its budget
  pub spends : Spends (medium_of query.medium) (budget (ring_for old query) query (Places part.next part.last) from.standing)
      (budget (ring_for new query) query (Places part.next part.last) to.standing) (media.bytes_read before) (media.bytes_read after) result
  -- a step to a record leaves fewer of them
  pub onward : result ≡ Ok true → steps_left to < steps_left from

-- Medium m alone was read, and a fault has its cause.
pub record ReadsForTurn {M T : Type 0} (media : MediaTells M) (m : ℕ) (old new : VaultState) (before after : M) (result : Result T ReadRefused) : Type 0 where
  -- where a write had failed, a fault is answered and nothing is called
  pub failed : old.failed ≡ true → (result ≡ Err Fault) × (new ≡ old) × (after ≡ before)
  -- no byte of another medium was read
  pub counts : ReadsNoOther m (media.bytes_read before) (media.bytes_read after)
  -- no count of faults falls, and a fault has its cause
  pub cause : HasReadCause m old.failed (media.faults before) (media.faults after) result

module _ {tells tells_images : Type 0} where
  -- These records are left of what the query selects at the places of a part.
  abbrev pub AreLeftWithin : Query → Stretch → VaultState → (placed : ℕ → List Placed) → Disk tells tells_images → CursorState → List Record → Type 0
  AreLeftWithin query part vault placed disk c records =
      AreLeft (slots_read (ring_for vault query) disk) (placed (medium_of query.medium)) query (Some (Places part.next part.last)) c records

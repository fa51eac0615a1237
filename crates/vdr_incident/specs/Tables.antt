-- The incident slots of the long-term medium, which is medium 1 (this project's profile; IMO MSC.333(90) asks that the record of
-- an incident be kept).
use Rattle.std.specs.Prelude.{◌≡◌, ◌⊎◌, ◌<◌, ◌≤◌, ◌+◌, ◌*◌, ℕ, zero, suc, List, length, get_or, Option}
use Rattle.vdr_core.specs.Histories.{Incident}
use Rattle.vdr_outside.specs.Causes.{counted}
use Rattle.vdr_outside.specs.Parts.{Slots, part}
use Rattle.vdr_incident.specs.Saves.{IsIncidentSlot}

-- Where an incident slot begins.
abbrev pub place_of : ℕ → ℕ
place_of slot = 4096 + slot * 256

-- There is a long-term medium with room for all that stands before the segments.
pub record HasIncidents (sizes : List ℕ) : Type 0 where
  pub there : 1 < length sizes
  pub room : 32768 ≤ get_or sizes 1 0

-- So many incident slots of a medium with these bytes hold this table.
pub record HoldsTable (slots : ℕ) (table : List (Option Incident)) (bytes : List ℕ) : Type 0 where
  pub size : length table ≡ slots
  pub room : 4096 + slots * 256 ≤ length bytes
  pub each : Slots IsIncidentSlot 4096 256 table bytes

-- Outside of this slot each part of a medium is what it was.
pub record SameBesideSlot (slot : ℕ) (old new : List ℕ) : Type 0 where
  pub size : length new ≡ length old
  pub same : (from n : ℕ) → (from + n ≤ place_of slot) ⊎ (place_of slot + 256 ≤ from) → part new from n ≡ part old from n

-- The medium holds this table, and but for this slot it is what it was.
pub record HoldsBeside (slot slots : ℕ) (table : List (Option Incident)) (old bytes : List ℕ) : Type 0 where
  pub holds : HoldsTable slots table bytes
  pub beside : SameBesideSlot slot old bytes

-- It holds the first table or the second.
abbrev pub HoldsEither : (slot slots : ℕ) (before after : List (Option Incident)) → (old bytes : List ℕ) → Type 0
HoldsEither slot slots before after old bytes = HoldsBeside slot slots before old bytes ⊎ HoldsBeside slot slots after old bytes

-- The first slot that is not legal begins at this offset.
pub record Refuses (slots : ℕ) (bytes : List ℕ) (offset : ℕ) : Type 0 where
  pub slot : ℕ
  pub within : slot < slots
  pub legal : (table : List (Option Incident)) × HoldsTable slot table bytes
  pub broken : (saved : Option Incident) → IsIncidentSlot (part bytes (place_of slot) 256) saved → ⊥
  pub at : offset ≡ place_of slot

-- How many bytes of each medium were read after so many slots.
abbrev pub counted_slots : List ℕ → ℕ → List ℕ
counted_slots counts zero = counts
counted_slots counts (suc n) = counted (counted_slots counts n) 1 256

-- All these slots were read once, or the first of them.
pub record ReadsSlots (slots : ℕ) (before now : List ℕ) : Type 0 where
  pub read : ℕ
  pub within : read ≤ slots
  pub counts : now ≡ counted_slots before read

-- The history: what the media held when they were opened, and the events since then (this project's profile; saved
-- incidents after IMO MSC.333(90), which asks that the record of an incident be kept).
use Rattle.std.specs.Prelude.{ℕ, zero, suc, ◌+◌, ◌≡◌, ◌≢◌, ⊤, List, [], ◌∷◌, ◌++◌, length, flat_map, set, slice_get, position, find, is_none, ◌==◌, Option, Some, None, option_map, option_and_then}
use Rattle.vdr_terms.specs.Records.{Record, last}
use Rattle.vdr_terms.specs.Rates.{Limit}
use Rattle.vdr_terms.specs.Channels.{Channels, bits_of}
use Rattle.vdr_terms.specs.Windows.{HasWindowPlaces}
use Rattle.vdr_core.specs.Runs.{Stamp}
use Rattle.vdr_core.specs.Taken.{Captured}

-- What one call of the recorder did.
pub data Act : Type 0 where
  Commit : (records : List Record) (taken : List Captured) → Act
  Save : (id : ℕ) (label : List ℕ) (a b : ℕ) → Act
  Release : (id : ℕ) → Act
  Look : Act

-- An event and its moment: the media's clock as its call returned. None: its call met a fault, or came after one that did.
pub record Event : Type 0 where
  pub act : Act
  pub moment : Option ℕ

-- A saved incident: the records of places a to b, under the stamp of record b.
pub record Incident : Type 0 where
  pub label : List ℕ
  pub a : ℕ
  pub b : ℕ
  pub stamp : Stamp

-- The numbers of a configuration on which a history depends. Medium 0 is the capsule, 1 the long-term medium.
pub record Settings : Type 0 where
  pub limits : ℕ → Limit  -- of each group
  pub channels : Channels
  pub seconds : ℕ → ℕ  -- of each medium's window
  pub incident_seconds : ℕ
  pub incident_slots : ℕ
  pub text : List ℕ  -- the configuration's own bytes

-- What the media read as when they were opened. The incident of id i + 1 stands at index i of the table.
pub record Opening : Type 0 where
  pub settings : Settings
  pub records : ℕ → List Record  -- of each medium
  pub table : List (Option Incident)
  pub next_place : ℕ
  pub last : Option Stamp  -- of the last record

-- The table has a slot for each incident that may be live, and the last record is the one before the next place.
pub record IsOpening (opening : Opening) : Type 0 where
  pub slots : length opening.table ≡ opening.settings.incident_slots
  pub first : opening.last ≡ None → opening.next_place ≡ 0

abbrev pub records_of_act : Act → List Record
records_of_act (Commit records taken) = records
records_of_act (Save id label a b) = []
records_of_act (Release id) = []
records_of_act Look = []

-- The records of these events.
abbrev pub recorded : List Event → List Record
recorded events = flat_map (λ e. records_of_act e.act) events

-- All that a medium was given: its records at the opening and those of the events.
abbrev pub all_records : Opening → ℕ → List Event → List Record
all_records opening m events = opening.records m ++ recorded events

abbrev pub next_place : Opening → List Event → ℕ
next_place opening events = opening.next_place + length (recorded events)

abbrev pub stamp_of : Option Record → Option Stamp → Option Stamp
stamp_of None before = before
stamp_of (Some r) before = Some (record { tick = r.tick; utc = r.utc })

abbrev pub last_stamp : Opening → List Event → Option Stamp
last_stamp opening events = stamp_of (last (recorded events)) opening.last

abbrev pub incident_of : List ℕ → ℕ → ℕ → Option Record → Option Incident
incident_of label a b None = None
incident_of label a b (Some r) = Some (record { label = label; a = a; b = b; stamp = record { tick = r.tick; utc = r.utc } })

-- The table with this at the slot of an id. The ids begin at 1, and no slot has the id 0.
abbrev pub with_slot : List (Option Incident) → ℕ → Option Incident → List (Option Incident)
with_slot table zero slot = table
with_slot table (suc i) slot = set table i slot

-- The live incident of this id, None where there is none.
abbrev pub live : List (Option Incident) → ℕ → Option Incident
live table zero = None
live table (suc i) = option_and_then (λ slot. slot) (slice_get table i)

-- The table after a save, which keeps the stamp of record b, or a release.
abbrev pub table_after : List Record → List (Option Incident) → Act → List (Option Incident)
table_after records table (Save id label a b) = with_slot table id (incident_of label a b (find (λ r. r.place == b) records))
table_after records table (Release id) = with_slot table id None
table_after records table (Commit more taken) = table
table_after records table Look = table

-- The table after further events, the records of the long-term medium being these.
abbrev pub table_along : List Record → List (Option Incident) → List Event → List (Option Incident)
table_along records table [] = table
table_along records table (e ∷ es) = table_along (records ++ records_of_act e.act) (table_after records table e.act) es

-- The live incidents: each save until its release.
abbrev pub incidents : Opening → List Event → List (Option Incident)
incidents opening events = table_along (opening.records 1) opening.table events

-- Places run on from this one, and each record has the bits of its kind.
abbrev pub Continues : Channels → ℕ → List Record → Type 0
Continues channels place [] = ⊤
Continues channels place (r ∷ rs) = (r.place ≡ place) × (r.bits ≡ bits_of channels r.group r.content) × Continues channels (suc place) rs

-- The act may come after these events.
abbrev pub MayCome : Opening → List Event → Act → Type 0
MayCome opening before (Commit records taken) = Continues opening.settings.channels (next_place opening before) records
MayCome opening before (Save id label a b) =
    (option_map suc (position is_none (incidents opening before)) ≡ Some id)
    × HasWindowPlaces opening.settings.incident_seconds (all_records opening 1 before) a b
MayCome opening before (Release id) = (incident : Incident) × (live (incidents opening before) id ≡ Some incident)
MayCome opening before Look = ⊤

-- Only looks, and none has a moment.
abbrev pub OnlyLooks : List Event → Type 0
OnlyLooks [] = ⊤
OnlyLooks (e ∷ es) = (e.act ≡ Look) × (e.moment ≡ None) × OnlyLooks es

-- Where the event has a moment, this holds of the later ones. One without is pending: it is no look, and only looks follow it.
abbrev pub EndsBy : Option ℕ → Act → List Event → Type 0 → Type 0
EndsBy None act later Rest = (act ≢ Look) × OnlyLooks later
EndsBy (Some moment) act later Rest = Rest

-- One event at most is pending, and what follows it has no moment either.
abbrev pub PendingEnds : List Event → Type 0
PendingEnds [] = ⊤
PendingEnds (e ∷ es) = EndsBy e.moment e.act es (PendingEnds es)

-- Each of these events may come after those before it.
abbrev pub MayFollow : Opening → List Event → List Event → Type 0
MayFollow opening before [] = ⊤
MayFollow opening before (e ∷ es) = MayCome opening before e.act × MayFollow opening (before ++ e ∷ []) es

-- The events are a history over the opening.
pub record IsHistory (opening : Opening) (events : List Event) : Type 0 where
  pub follow : MayFollow opening [] events
  pub pending : PendingEnds events

-- The event and these, where it has a moment; else none.
abbrev pub done_from : Option ℕ → Event → List Event → List Event
done_from (Some moment) e later = e ∷ later
done_from None e later = []

-- The events that were done: those before the pending one.
abbrev pub done : List Event → List Event
done [] = []
done (e ∷ es) = done_from e.moment e (done es)

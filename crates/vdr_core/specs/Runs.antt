-- One run: its base, its ticks and its stamps. Recording time and runs are this project's profile: a tick is a number of
-- milliseconds that grows only while the recorder runs and never falls, and UTC is kept beside it (IEC 61996-1 asks for
-- date and time of each item).
use Rattle.std.specs.Prelude.{ℕ, ◌+◌, ◌*◌, ◌≤◌, ◌≡◌, ◌⊎◌, ⊤, ℤ, pos, true, List, [], ◌∷◌, slice_get, Option, Some, None}
use Rattle.std.specs.List.{AllByRecursion}
use Rattle.vdr_terms.specs.Records.{Content, Record, Item, second, is_gap}
use Rattle.vdr_terms.specs.Records.Content.{Start, Datagram, Gap, Stop}
use Rattle.vdr_terms.specs.Rates.{Limit}
use Rattle.vdr_terms.specs.Channels.{Channels}
use Rattle.vdr_terms.specs.Order.{NeverFalls}

-- When a record was made: recording time and utc.
pub record Stamp : Type 0 where
  pub tick : ℕ
  pub utc : ℤ

-- The tick of the last record, 0 where there is none.
abbrev pub last_tick : Option Stamp → ℕ
last_tick None = 0
last_tick (Some stamp) = stamp.tick

-- The tick at which a run begins: the next whole second after the last record, 0 where nothing is recorded.
abbrev pub base_after : Option Stamp → ℕ
base_after None = 0
base_after (Some last) = (second last.tick + 1) * 1000

-- The utc of what comes before any item of the run.
abbrev pub utc_after : Option Stamp → ℤ
utc_after None = pos 0
utc_after (Some last) = last.utc

-- What a run begins with: each group's limit, the channels, the next place, and the stamp of the last record.
pub record RunStart : Type 0 where
  pub limits : ℕ → Limit
  pub channels : Channels
  pub place : ℕ
  pub last : Option Stamp

abbrev pub base_of : RunStart → ℕ
base_of start = base_after start.last

-- The tick is the base plus the `received` of an item that a port gave in the run.
abbrev pub IsGiven : ℕ → (ℕ → List Item) → ℕ → Type 0
IsGiven base given tick = (g k : ℕ) × (item : Item) × (slice_get (given g) k ≡ Some item) × (tick ≡ base + item.received)

-- A record comes next, with the same tick and utc.
abbrev pub SameStamp : Record → List Record → Type 0
SameStamp r [] = ⊥
SameStamp r (next ∷ rs) = (r.tick ≡ next.tick) × (r.utc ≡ next.utc)

-- Each Gap has the stamp of the record that follows it.
abbrev pub GapStamps : List Record → Type 0
GapStamps [] = ⊤
GapStamps (r ∷ rs) = (is_gap r.content ≡ true → SameStamp r rs) × GapStamps rs

-- Start has the base. A Datagram has a tick that was given, no earlier than its own item's. Stop has the base or a tick that was given.
abbrev pub TickOf : ℕ → (ℕ → List Item) → Record → Content → Type 0
TickOf base given r Start = r.tick ≡ base
TickOf base given r (Datagram payload) = IsGiven base given r.tick × ((item : Item) → slice_get (given r.group) r.number ≡ Some item → base + item.received ≤ r.tick)
TickOf base given r (Gap missed) = ⊤
TickOf base given r Stop = (r.tick ≡ base) ⊎ IsGiven base given r.tick

-- The ticks of a run's records.
pub record Ticks (base : ℕ) (given : ℕ → List Item) (run : List Record) : Type 0 where
  pub rising : NeverFalls base run
  pub gaps : GapStamps run
  pub each : AllByRecursion (λ r. TickOf base given r r.content) run

-- What a play of a vault answers.
use Rattle.std.specs.Prelude.{◌≡◌, ◌≢◌, ◌⊎◌, ◌<◌, ℕ, Bool, true, List, length, get_or, sum, Contains, Option, Some, None, IfSome, option_map, Result, Err}
use Rattle.vdr_terms.specs.Records.{Record, second, last}
use Rattle.vdr_terms.specs.Queries.{Medium, Query, Span, meets}
use Rattle.vdr_terms.specs.Queries.Medium.{WindowOf, Incident}
use Rattle.vdr_terms.specs.Queries.Span.{Window, Places}
use Rattle.vdr_core.specs.Histories.{live}
use Rattle.vdr_core.specs.Histories as histories
use Rattle.vdr_durability.specs.Playback.{medium_of}
use Rattle.vdr_outside.specs.Causes.{NoneFalls, Rose}
use Rattle.vdr_outside.specs.Disk.{Disk, content}
use Rattle.vdr_config.specs.Configuration.{Configuration}
use Rattle.vdr_config.specs.Sizes.{window_of}
use Rattle.vdr_index.specs.declared.known.Known.{Known}
use Rattle.vdr_index.specs.Indexes.{summary_of}
use Rattle.vdr_directory.specs.Sequence.{Placed, all_records, seq_of}
use Rattle.vdr_directory.specs.Telling.{IsKnownBy}
use Rattle.vdr_ring.specs.Damage.{IsDamagedIn, IsIntact}
use Rattle.vdr_ring.specs.Meets.{AreApart, IsKnownToMeet}
use Rattle.vdr_ring.specs.Rings.{RingState}
use Rattle.vdr_ring.specs.Visits.{slot_read}
use Rattle.vdr_ring.specs.declared.refused.ReadRefused.{ReadRefused}
use Rattle.vdr_ring.specs.declared.refused.ReadRefused.TheVariants.{Fault}
use Rattle.vdr_vault.specs.Vaults.{AreJudged, IsDamagedOn, VaultState, ring_of}
use Rattle.vdr_ring.specs.declared.cursor.Standing.{Standing}
use Rattle.vdr_ring.specs.Budgets.{IsOfSegments, budget}
use Rattle.vdr_ring.specs.Passing.{IsPassed}
use Rattle.vdr_ring.specs.Walks.{CursorState, AreLeft, slots_read}

-- What a query's medium comes to, by the configuration, the incidents and the segments of the media: the seconds up to the last
-- record's, or an incident's places.
abbrev pub span_among : Configuration → List (Option histories.Incident) → (placed : ℕ → List Placed) → Medium → Option Span
span_among config table placed (WindowOf m) = option_map (λ r. Window (second r.tick) (window_of config m)) (last (all_records (placed m)))
span_among config table placed (Incident id) = option_map (λ incident. Places incident.a incident.b) (live table id)

-- The same, of what a vault has.
abbrev pub span_in : VaultState → (placed : ℕ → List Placed) → Medium → Option Span
span_in vault = span_among vault.config vault.table

-- The same, by what the vault keeps of its media.
abbrev pub span_by : VaultState → Medium → Option Span
span_by vault (WindowOf m) = option_map (λ e. Window (second e.tick) (window_of vault.config m)) (ring_of vault m).directory.ending
span_by vault (Incident id) = option_map (λ incident. Places incident.a incident.b) (live vault.table id)

-- The ring that a query reads.
abbrev pub ring_for : VaultState → Query → RingState
ring_for vault query = ring_of vault (medium_of query.medium)

-- The bytes that steps from there on read at most of a span, if there is one.
abbrev pub budget_of : RingState → Query → Option Span → Option Standing → ℕ
budget_of ring query None standing = 0
budget_of ring query (Some span) standing = budget ring query span standing

-- The bytes that steps from there on read at most of what the query's medium comes to.
abbrev pub budget_for : VaultState → Query → Option Standing → ℕ
budget_for vault query standing = budget_of (ring_for vault query) query (span_by vault query.medium) standing

-- The bytes that a whole play of the query reads at most.
abbrev pub whole_budget : VaultState → Query → ℕ
whole_budget vault query = budget_for vault query None

-- They are a segment's for each segment of the query's medium that meets it, each once; none where it comes to nothing.
abbrev pub AreOfSegments : Query → VaultState → (placed : ℕ → List Placed) → Option Span → Type 0
AreOfSegments query vault placed None = whole_budget vault query ≡ 0
AreOfSegments query vault placed (Some span) = (whole_budget vault query ≡ budget (ring_for vault query) query span None) × IsOfSegments query span (ring_for vault query) (placed (medium_of query.medium))

-- The ring knows of this segment that it meets the query within what the query's medium comes to. None does where that is nothing.
abbrev pub IsKnownToMeetIn : Query → Option Span → RingState → (slot seq : ℕ) → Type 0
IsKnownToMeetIn query None ring slot seq = ⊥
IsKnownToMeetIn query (Some span) ring slot seq = IsKnownToMeet query span ring.directory.index slot seq

-- The same of the ring that the query reads.
abbrev pub MeetsFor : Query → VaultState → (slot seq : ℕ) → Type 0
MeetsFor query vault slot seq = IsKnownToMeetIn query (span_by vault query.medium) (ring_for vault query) slot seq

-- The segment in which a cursor stands, if any, is such a one.
abbrev pub StandsFor : Query → VaultState → Option Standing → Type 0
StandsFor query vault standing = IfSome standing (λ s. MeetsFor query vault s.slot s.seq)

-- By what opening knows of it, the segment may have a record that the query selects of the span.
pub record MeetsBy (query : Query) (span : Span) (p : Placed) : Type 0 where
  pub known : Known
  pub is : IsKnownBy p known
  pub meets_it : meets query span (summary_of known) ≡ true

-- The same of a span, if there is one.
abbrev pub MeetsWithin : Query → Option Span → Placed → Type 0
MeetsWithin query None p = ⊥
MeetsWithin query (Some span) p = MeetsBy query span p

-- A vault whose ring tells of these segments of the query's medium knows just those of them to meet the query that do by what opening
-- knows of them, each by a number of its own.
pub record KnowsToMeet (query : Query) (vault : VaultState) (known : ℕ → List Placed) : Type 0 where
  pub apart : AreApart (ring_for vault query).directory.index
  pub span : span_by vault query.medium ≡ span_in vault known query.medium
  pub of_part : (p : Placed) → Contains (known (medium_of query.medium)) p → MeetsWithin query (span_in vault known query.medium) p → MeetsFor query vault p.slot (seq_of p)
  pub is_part : (slot seq : ℕ) → MeetsFor query vault slot seq
      → (p : Placed) × Contains (known (medium_of query.medium)) p × (p.slot ≡ slot) × MeetsWithin query (span_in vault known query.medium) p

-- Only the buffer of the ring on medium m may have changed.
pub record ReadsOn (m : ℕ) (old new : VaultState) : Type 0 where
  -- but for its rings the vault is as before, and there are as many
  pub vault : new ≡ record old { rings = new.rings }
  pub count : length new.rings ≡ length old.rings
  -- but for its buffer the ring on medium m is as before
  pub ring : ring_of new m ≡ record (ring_of old m) { buffer = (ring_of new m).buffer; loaded = (ring_of new m).loaded }
  -- the others are as before
  pub others : (k : ℕ) → k ≢ m → ring_of new k ≡ ring_of old k

-- No count of faults falls. A fault comes where a write had failed before, and else only where the count of medium m rose, and
-- so the sum.
pub record HasReadCause {T : Type 0} (m : ℕ) (failed : Bool) (before now : List ℕ) (result : Result T ReadRefused) : Type 0 where
  pub later : NoneFalls before now
  pub on_medium : result ≡ Err Fault → (failed ≡ true) ⊎ Rose (get_or before m 0) (get_or now m 0)
  pub in_all : result ≡ Err Fault → (failed ≡ true) ⊎ Rose (sum before) (sum now)

-- No byte of another medium than m was read.
abbrev pub ReadsNoOther : ℕ → (before now : List ℕ) → Type 0
ReadsNoOther m before now = (k : ℕ) → k ≢ m → get_or now k 0 ≡ get_or before k 0

module _ {tells tells_images : Type 0} where
  -- These records are still to come of what the query selects.
  abbrev pub AreToCome : Query → VaultState → (placed : ℕ → List Placed) → Disk tells tells_images → CursorState → List Record → Type 0
  AreToCome query vault placed disk c records =
      AreLeft (slots_read (ring_for vault query) disk) (placed (medium_of query.medium)) query (span_in vault placed query.medium) c records

  -- All segments that meet the query and that a cursor has passed are intact.
  abbrev pub ArePassedFor : Query → VaultState → Disk tells tells_images → Option Standing → Type 0
  ArePassedFor query vault disk standing = (slot seq : ℕ) → MeetsFor query vault slot seq → IsPassed standing seq → IsIntact (slot_read (ring_for vault query) slot disk)

  -- All that meet it are.
  abbrev pub AreIntactFor : Query → VaultState → Disk tells tells_images → Type 0
  AreIntactFor query vault disk = (slot seq : ℕ) → MeetsFor query vault slot seq → IsIntact (slot_read (ring_for vault query) slot disk)

  -- The slot of a segment that meets the query is damaged at this offset of the query's medium, and those of lower numbers that meet it are
  -- intact.
  pub record IsMetAt (query : Query) (vault : VaultState) (disk : Disk tells tells_images) (offset : ℕ) : Type 0 where
    pub slot : ℕ
    pub seq : ℕ
    pub meets : MeetsFor query vault slot seq
    pub damaged : IsDamagedIn (ring_for vault query).segment slot (content disk.reads (ring_for vault query).medium) offset
    pub first : AreApart (ring_for vault query).directory.index → (j k : ℕ) → MeetsFor query vault j k → k < seq → IsIntact (slot_read (ring_for vault query) j disk)

  -- What a play of a query says of damage, by what it names and whether it is done.
  pub record TellsDamageOf (query : Query) (vault : VaultState) (disk : Disk tells tells_images) (Names : (m offset : ℕ) → Type 0) (done : Type 0) : Type 0 where
    -- damage is on the query's medium
    pub medium : (m offset : ℕ) → Names m offset → m ≡ medium_of query.medium
    -- where one of its slots is not intact
    pub damaged : (m offset : ℕ) → Names m offset → tells → AreJudged vault disk → IsDamagedOn vault.config disk m offset
    -- the first that meets the query and is damaged
    pub met : (m offset : ℕ) → Names m offset → tells → AreJudged vault disk → IsMetAt query vault disk offset
    -- and none is passed over: once the play is done, all segments that meet the query are intact
    pub whole : done → tells → AreJudged vault disk → AreApart (ring_for vault query).directory.index → AreIntactFor query vault disk

-- What opening answers.
use Rattle.std.specs.Prelude.{◌≡◌, ◌≢◌, ◌⊎◌, ◌<◌, ◌≤◌, ◌+◌, ◌-◌, ℕ, List, [], length, get_or, take, drop, sum, All, Any, Option, None, Result, Err, IsErrOf}
use Rattle.vdr_terms.specs.Records.{Record}
use Rattle.vdr_terms.specs.Sizes.{batch_size}
use Rattle.vdr_core.specs.Histories.{Incident}
use Rattle.vdr_durability.specs.Readings.{Reading, AreLevel, EndsMeet, IsPassedOn}
use Rattle.vdr_outside.specs.Causes.{NoneFalls, Rose}
use Rattle.vdr_outside.specs.Disk.{Disk, Durable}
use Rattle.vdr_config.specs.Configuration.{Configuration}
use Rattle.vdr_media.specs.Formatted.{IsFormatted, IsUnformatted}
use Rattle.vdr_ring.specs.Rings.{RingState}
use Rattle.vdr_ring.specs.Openings.{IsRingOf}
use Rattle.vdr_ring.specs.Rings as rings
use Rattle.vdr_ring.specs.Visits.{HasJudged}
use Rattle.vdr_opening.specs.declared.refused.OpenRefused.{OpenRefused}
use Rattle.vdr_opening.specs.declared.refused.OpenRefused.TheVariants.{Damaged, Fault, NotFormatted}
use Rattle.vdr_opening.specs.Media.{members_with, members_in, Contents, HoldsContents, HoldsParts, reading_of}
use Rattle.vdr_opening.specs.Refusals.{IsRefused}

-- What was opened: the configuration, a ring on each medium in order of number, the incidents, and the batch that the media from a
-- number on lack, if any.
pub record OpenedState : Type 0 where
  pub config : Configuration
  pub rings : List RingState
  pub table : List (Option Incident)
  pub missing : List Record
  pub lacking : ℕ

-- The ring of no medium.
abbrev pub no_ring : RingState
no_ring = record { medium = 0; segment = 0; slots = 0; seconds = 0; directory = record { index = []; newest = None; ending = None }; buffer = []; loaded = None; bare = [] }

-- The ring on medium m: that of the index m.
abbrev pub ring_at : List RingState → ℕ → RingState
ring_at rings m = get_or rings m no_ring

-- The media that these rings are on: two at least.
abbrev pub further_on : List RingState → ℕ
further_on rings = length rings - 2

abbrev pub members_on : List RingState → List ℕ
members_on rings = members_with (further_on rings)

-- There is a ring on each of the media, and no other, and each is that of its medium.
pub record AreRingsOf (c : Configuration) (sizes : List ℕ) (rings : List RingState) : Type 0 where
  pub two : 2 ≤ length rings
  pub each : All (λ m. IsRingOf c sizes m (ring_at rings m)) (members_on rings)

-- What was opened is of media of these sizes: each ring is that of its medium, the table has the configured slots, and the batch that
-- is missing fits a segment and is missing behind the medium that leads.
pub record FitsMedia (o : OpenedState) (sizes : List ℕ) : Type 0 where
  -- each ring is that of its medium
  pub rings : AreRingsOf o.config sizes o.rings
  -- the table has the configured slots
  pub slots : length o.table ≡ o.config.incident_slots
  -- the batch that is missing fits an empty segment
  pub fits : o.missing ≢ [] → 64 + batch_size o.missing + 1 ≤ o.config.segment
  -- the medium that leads has it
  pub behind : o.missing ≢ [] → (0 < o.lacking) × (o.lacking < length o.rings)

-- The media from this one on lack this batch, which is the last one of those before it; or none lacks any.
abbrev pub IsMissing : (members : List ℕ) → List Record → (lacking : ℕ) → Reading → Type 0
IsMissing members missing lacking reading = ((missing ≡ []) × AreLevel members reading) ⊎ IsPassedOn members (take lacking members) (drop lacking members) missing reading

module _ {tells tells_images : Type 0} where
  -- The media hold these contents, and so it was opened.
  pub record IsOpened (o : OpenedState) (x : Contents) (disk : Disk tells tells_images) : Type 0 where
    pub holds : HoldsContents disk.reads x
    pub meet : EndsMeet (members_with x.further) (reading_of x)
    pub config : o.config ≡ x.config
    pub count : length o.rings ≡ 2 + x.further
    pub rings : All (λ m. rings.Reads (ring_at o.rings m) (x.placed m) disk) (members_with x.further)
    pub table : o.table ≡ x.table
    pub missing : IsMissing (members_with x.further) o.missing o.lacking (reading_of x)

  -- What opening reads of the media is this, and so it was opened.
  pub record IsOpenedBy (o : OpenedState) (x : Contents) (disk : Disk tells tells_images) : Type 0 where
    pub holds : HoldsParts disk.reads x
    pub meet : EndsMeet (members_with x.further) (reading_of x)
    pub config : o.config ≡ x.config
    pub count : length o.rings ≡ 2 + x.further
    pub rings : All (λ m. rings.Knows (ring_at o.rings m) (x.placed m) disk) (members_with x.further)
    pub table : o.table ≡ x.table
    pub missing : IsMissing (members_with x.further) o.missing o.lacking (reading_of x)

  -- The slot that each ring has loaded was judged.
  abbrev pub AreJudgedOn : List RingState → Disk tells tells_images → Type 0
  AreJudgedOn on disk = All (λ m. HasJudged (ring_at on m) disk) (members_on on)

  -- The media that are read were not formatted, or this is the first part that is not legal.
  pub record RefusesAsRead {T : Type 0} (result : Result T OpenRefused) (disk : Disk tells tells_images) : Type 0 where
    -- the media were not formatted
    pub unformatted : result ≡ Err NotFormatted → tells → IsUnformatted disk.reads
    -- this is the first part that is not legal, where nothing was unsynced
    pub damaged : (m offset : ℕ) → result ≡ Err (Damaged m offset) → tells → All (λ k. Durable k disk) (members_in disk.reads) → IsFormatted disk.reads × IsRefused disk.reads m offset

-- No count of faults falls, and a fault comes only where that of one of the media rose, and so their sum.
pub record HasOpenCause {T : Type 0} (members : List ℕ) (before now : List ℕ) (result : Result T OpenRefused) : Type 0 where
  pub later : NoneFalls before now
  pub by_medium : IsErrOf result Fault → Any (λ m. Rose (get_or before m 0) (get_or now m 0)) members
  pub in_all : IsErrOf result Fault → Rose (sum before) (sum now)

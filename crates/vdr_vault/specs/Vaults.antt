-- What a vault's media hold of a history (this project's profile).
use Rattle.std.specs.Prelude.{◌≡◌, ◌<◌, ℕ, ℤ, Bool, false, List, length, get_or, All, Option, None, option_map}
use Rattle.vdr_terms.specs.Records.{Record, last}
use Rattle.vdr_terms.specs.Needs.{cost, slots_in, usable}
use Rattle.vdr_terms.specs.Order.{AreInOrder}
use Rattle.vdr_core.specs.Histories.{Event, Incident, Opening, incidents, last_stamp, next_place, stamp_of}
use Rattle.vdr_core.specs.Runs.{Stamp}
use Rattle.vdr_durability.specs.Retention.{Retains}
use Rattle.vdr_durability.specs.Victims.{ArePinsOf}
use Rattle.vdr_durability.specs.Readings.{Reading, AreLevel, next_after}
use Rattle.vdr_durability.specs.Shown.{ImageShows, given_with, pins_on}
use Rattle.vdr_outside.specs.Disk.{Disk, Image, content}
use Rattle.vdr_config.specs.Configuration.{Configuration}
use Rattle.vdr_config.specs.Sizes.{sizes_of}
use Rattle.vdr_directory.specs.Sequence.{Placed, all_records, batches_in}
use Rattle.vdr_ring.specs.Regularity.{AreRegular}
use Rattle.vdr_ring.specs.Damage.{HasDamage}
use Rattle.vdr_ring.specs.Rings.{RingState}
use Rattle.vdr_ring.specs.Rings as rings
use Rattle.vdr_incident.specs.Tables.{HoldsTable}
use Rattle.vdr_opening.specs.Settings.{settings_of}
use Rattle.vdr_opening.specs.Media.{further_in, Contents, HasFront, AreThere, Reads}
use Rattle.vdr_durability.specs.Soundness.{IsUnbroken}
use Rattle.vdr_vault.specs.Regularity.{AreSound}
use Rattle.vdr_opening.specs.Answers.{AreJudgedOn, AreRingsOf, further_on, members_on, ring_at}
use Rattle.vdr_ring.specs.Openings.{IsRingOf}
use Rattle.vdr_ring.specs.Whole.{KeepsAll, is_filled}

-- A vault without its media: the configuration, a ring on each medium in order of number, the incidents, the next place with tick and
-- utc of the last record, and whether a write has failed. After a fault place and record are those before the batch that met it.
pub record VaultState : Type 0 where
  pub config : Configuration
  pub rings : List RingState
  pub table : List (Option Incident)
  pub next_place : ℕ
  pub last : Option (ℕ × ℤ)
  pub failed : Bool

-- Tick and utc.
abbrev pub tick_utc : Record → ℕ × ℤ
tick_utc r = (r.tick, r.utc)

abbrev pub of_stamp : Stamp → ℕ × ℤ
of_stamp s = (s.tick, s.utc)

-- The same, as if no write had failed.
abbrev pub working : VaultState → VaultState
working vault = record vault { failed = false }

-- And as if this were the last record.
abbrev pub working_from : Option Record → VaultState → VaultState
working_from newest vault = record vault { next_place = next_after newest; last = option_map tick_utc newest; failed = false }

-- The ring on medium m.
abbrev pub ring_of : VaultState → ℕ → RingState
ring_of vault m = ring_at vault.rings m

-- Each ring is its medium's.
abbrev pub AreRings : VaultState → (sizes : List ℕ) → Type 0
AreRings vault sizes = AreRingsOf vault.config sizes vault.rings

-- What the media of a vault hold with these segments and these incidents.
abbrev pub contents_of : Opening → VaultState → (ℕ → List Placed) → List (Option Incident) → Contents
contents_of opening vault placed table = record {
  further = further_on vault.rings;
  config = vault.config;
  text = opening.settings.text;
  placed = placed;
  table = table;
  filled = λ m. is_filled (ring_of vault m).slots (placed m);
}

-- What the segments of both media read as.
abbrev pub reading_with : (text : List ℕ) (placed : ℕ → List Placed) (table : List (Option Incident)) → Reading
reading_with text placed table = record { batches = λ m. batches_in (placed m); table = table; text = text }

-- The image is legible as media of these numbers, reads so, and is sound.
pub record ReadsSound (image : Image) (numbers : List ℕ) (reading : Reading) : Type 0 where
  pub reads : Reads image numbers reading
  pub sound : AreSound reads.contents

-- The image is legible and sound, and shows these events.
abbrev pub ShowsHistory : Opening → List Event → Image → Type 0
ShowsHistory opening events image = ImageShows ReadsSound opening events image

module _ {tells tells_images : Type 0} where
  -- Medium m has these segments, which are regular, and retains of all that it was given its window and the live incidents. It lacks
  -- nothing that it is to keep.
  pub record HoldsHistory (opening : Opening) (events : List Event) (c : Configuration) (m : ℕ) (ring : RingState) (placed : List Placed) (disk : Disk tells tells_images) : Type 0 where
    pub is_its : IsRingOf c disk.sizes m ring
    pub reads : rings.Reads ring placed disk
    pub front : tells → HasFront m c opening.settings.text (content disk.reads m)
    pub regular : AreRegular (cost (sizes_of c)) (usable (sizes_of c)) c.batch placed
    pub order : AreInOrder (given_with opening events m)
    pub retains : Retains (opening.settings.seconds m) (pins_on m (incidents opening events)) (given_with opening events m) (all_records placed)
    pub pins : ArePinsOf (sizes_of c) m (all_records placed) (pins_on m (incidents opening events))
    pub unbroken : IsUnbroken (opening.settings.seconds m) (given_with opening events m)
    pub keeps : KeepsAll ring.seconds ring.slots placed

  -- What reading medium m needs of it: these segments are there, in order, and retain of all that it was given its window and the
  -- live incidents.
  pub record IsReadableAt (opening : Opening) (events : List Event) (m : ℕ) (ring : RingState) (placed : List Placed) (disk : Disk tells tells_images) : Type 0 where
    pub reads : rings.Reads ring placed disk
    pub order : AreInOrder (given_with opening events m)
    pub retains : Retains (opening.settings.seconds m) (pins_on m (incidents opening events)) (given_with opening events m) (all_records placed)

  -- The slot that the ring on each medium has loaded was judged.
  abbrev pub AreJudged : VaultState → Disk tells tells_images → Type 0
  AreJudged vault disk = AreJudgedOn vault.rings disk

  -- Medium m of a recording is damaged at this offset: one of its slots is not intact there.
  abbrev pub IsDamagedOn : Configuration → Disk tells tells_images → (m offset : ℕ) → Type 0
  IsDamagedOn c disk m offset = (m < 2) × HasDamage c.segment (slots_in (sizes_of c) (get_or disk.sizes m 0)) (content disk.reads m) offset

  -- A vault whose media can be read as what these events left, regular or not.
  pub record IsReadable (opening : Opening) (events : List Event) (vault : VaultState) (placed : ℕ → List Placed) (disk : Disk tells tells_images) : Type 0 where
    pub settings : opening.settings ≡ settings_of vault.config opening.settings.text
    pub working : vault.failed ≡ false
    pub media : All (λ m. IsReadableAt opening events m (ring_of vault m) (placed m) disk) (members_on vault.rings)
    pub incidents_are : vault.table ≡ incidents opening events

  -- A vault at rest after these events: nothing is unsynced, both media end with the last batch, and all that was recorded and
  -- saved stands on them as far as it is to be retained.
  pub record Stands (opening : Opening) (events : List Event) (vault : VaultState) (placed : ℕ → List Placed) (disk : Disk tells tells_images) : Type 0 where
    pub settings : opening.settings ≡ settings_of vault.config opening.settings.text
    pub working : vault.failed ≡ false
    pub media : All (λ m. HoldsHistory opening events vault.config m (ring_of vault m) (placed m) disk) (members_on vault.rings)
    pub level : AreLevel (members_on vault.rings) (reading_with opening.settings.text placed vault.table)
    pub incidents_are : vault.table ≡ incidents opening events
    pub slots : length vault.table ≡ vault.config.incident_slots
    pub version : (i : Image) → disk.now i → further_on vault.rings ≡ further_in i
    pub read_version : tells → further_on vault.rings ≡ further_in disk.reads
    pub table : tells → HoldsTable vault.config.incident_slots vault.table (content disk.reads 1)
    pub there : AreThere vault.table (placed 1)
    pub goes_on : vault.next_place ≡ next_place opening events
    pub newest : vault.last ≡ option_map of_stamp (last_stamp opening events)
    pub place : next_place opening events ≡ next_after (last (all_records (placed 0)))
    pub stamp : last_stamp opening events ≡ stamp_of (last (all_records (placed 0))) None

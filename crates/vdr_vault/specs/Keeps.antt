-- What each call of a vault keeps, and what it answers, whatever becomes of it.
use Rattle.std.specs.Prelude.{◌≡◌, ◌≢◌, ◌⊎◌, ◌↔◌, ◌<◌, ◌-◌, ℕ, suc, Bool, true, false, List, length, is_none, position, Option, Some, None, option_map, Result, Ok, Err, IfOk, IsErr, OnErr, OnOk}
use Rattle.vdr_terms.specs.Records.{Record, last}
use Rattle.vdr_terms.specs.Queries.{Query}
use Rattle.vdr_core.specs.Histories.{Event, Incident, Opening, live, with_slot}
use Rattle.vdr_durability.specs.Readings.{next_after}
use Rattle.vdr_durability.specs.Playback.{medium_of}
use Rattle.vdr_outside.specs.declared.media.Media.{Ghosts as MediaTells}
use Rattle.vdr_outside.specs.Disk.{Disk, SameBut, Unchanged}
use Rattle.vdr_ring.specs.Meets.{AreApart}
use Rattle.vdr_ring.specs.Visits.{StandsAmong}
use Rattle.vdr_ring.specs.Rings.{RingState}
use Rattle.vdr_directory.specs.Sequence.{Placed}
use Rattle.vdr_ring.specs.declared.refused.ReadRefused.{ReadRefused}
use Rattle.vdr_ring.specs.declared.refused.ReadRefused.TheVariants.{Damaged as damage_read, Fault as a_read_fault}
use Rattle.vdr_incident.specs.declared.refused.ReleaseRefused.{ReleaseRefused}
use Rattle.vdr_incident.specs.declared.refused.ReleaseRefused.TheVariants.{Fault as a_release_fault, NoSuch}
use Rattle.vdr_vault.specs.declared.refused.SaveRefused.{SaveRefused}
use Rattle.vdr_vault.specs.declared.refused.SaveRefused.TheVariants.{Damaged, Fault, Label, Nothing, TableFull}
use Rattle.vdr_vault.specs.Vaults.{AreJudged, AreRings, IsDamagedOn, IsReadable, VaultState, Stands, of_stamp, ring_of, tick_utc}
use Rattle.vdr_vault.specs.Calls.{HasVaultCause, SameElsewhere}
use Rattle.vdr_vault.specs.Saves.{HasFaultOn, save_refusal}
use Rattle.vdr_ring.specs.Walks.{CursorState, MayStep, steps_left}
use Rattle.vdr_vault.specs.Plays.{AreIntactFor, ArePassedFor, HasReadCause, IsMetAt, ReadsNoOther, ReadsOn, StandsFor, ring_for}

-- Where a write had failed before, the call does nothing; and where it fails, the next one does nothing.
pub record StopsAtFault {S M T E : Type 0} (had_failed has_failed : Bool) (old new : S) (before after : M) (result : Result T E) : Type 0 where
  -- where a write had failed, nothing was called
  pub failed : had_failed ≡ true → IsErr result × (new ≡ old) × (after ≡ before)
  -- after an error a write has failed
  pub fails : OnErr result (has_failed ≡ true)
  -- after Ok none has
  pub works : OnOk result (has_failed ≡ false)

-- After a fault the next call does nothing.
pub record FailsWhere (faulted : Type 0) (has_failed : Bool) : Type 0 where
  -- after a fault a write has failed
  pub fails : faulted → has_failed ≡ true
  -- after any other answer none has
  pub works : (faulted → ⊥) → has_failed ≡ false

-- Next place and last record are those behind these records; where the call fails, they stay.
pub record GoesOn {T E : Type 0} (old new : VaultState) (records : List Record) (result : Result T E) : Type 0 where
  -- after Ok the next place is behind them
  pub next_place : OnOk result (new.next_place ≡ next_after (last records))
  -- after Ok the last record is theirs
  pub last : OnOk result (new.last ≡ option_map tick_utc (last records))
  -- after an error both are as before
  pub kept : OnErr result ((new.next_place ≡ old.next_place) × (new.last ≡ old.last))

-- Configuration and incidents stay, and the rings are those of their media.
pub record KeepsVault {tells tells_images : Type 0} (old new : VaultState) (before after : Disk tells tells_images) : Type 0 where
  -- the configuration is as before
  pub config : new.config ≡ old.config
  -- the incidents are as before
  pub table : new.table ≡ old.table
  -- there are as many rings
  pub count : length new.rings ≡ length old.rings
  -- each ring is its medium's
  pub rings : AreRings new after.sizes
  -- the slots that were loaded and judged still are
  pub judged : AreJudged old before → AreJudged new after

-- All that tells what was recorded stays, and the rings are those of media of these sizes.
pub record KeepsHistory (old new : VaultState) (sizes : List ℕ) : Type 0 where
  -- the next place is as before
  pub next_place : new.next_place ≡ old.next_place
  -- the last record is as before
  pub last : new.last ≡ old.last
  -- the configuration is as before
  pub config : new.config ≡ old.config
  -- the ring on the capsule is as before
  pub capsule : ring_of new 0 ≡ ring_of old 0
  -- there are as many rings
  pub count : length new.rings ≡ length old.rings
  -- each ring is its medium's
  pub rings : AreRings new sizes

-- The call wrote to the capsule and the long-term medium alone and read nothing. An error comes only of a fault.
pub record WritesToBoth {M T E : Type 0} (members : List ℕ) (media : MediaTells M) (failed : Bool) (old new : M) (result : Result T E) : Type 0 where
  -- the other media read as before
  pub others : media.tells → SameElsewhere members (media.disk old).reads (media.disk new).reads
  -- no medium changes its size
  pub sizes : (media.disk new).sizes ≡ (media.disk old).sizes
  -- nothing was read
  pub counts : media.bytes_read new ≡ media.bytes_read old
  -- no count of faults falls, and an error has its cause
  pub cause : HasVaultCause members failed (media.faults old) (media.faults new) result

-- The call wrote to the long-term medium alone, and so many bytes were read.
pub record WritesToLongTerm {M : Type 0} (media : MediaTells M) (failed : Bool) (old new : M) (Reads : List ℕ → List ℕ → Type 0) (faulted : Type 0) : Type 0 where
  -- the other media read as before
  pub others : media.tells → SameBut 1 (media.disk old).reads (media.disk new).reads
  -- no medium changes its size
  pub sizes : (media.disk new).sizes ≡ (media.disk old).sizes
  -- what was read
  pub counts : Reads (media.bytes_read old) (media.bytes_read new)
  -- no count of faults falls, and a fault has its cause
  pub cause : HasFaultOn 1 failed (media.faults old) (media.faults new) faulted

-- The first three refusals of a save, each exactly where it is due, leave all as it is, and so does a vault that a write had failed.
pub record RefusesSave {S M : Type 0} (label : List ℕ) (vault : VaultState) (old new : S) (before after : M) (result : Result ℕ SaveRefused) : Type 0 where
  -- where a write had failed, a fault is answered and nothing is called
  pub failed : vault.failed ≡ true → (result ≡ Err Fault) × (new ≡ old) × (after ≡ before)
  -- where a save is refused for its label, for want of records or of a free slot, that is answered and nothing is called
  pub refused : (refused : SaveRefused) → vault.failed ≡ false → save_refusal label vault ≡ Some refused → (result ≡ Err refused) × (new ≡ old) × (after ≡ before)
  -- and it is answered only there
  pub reason : (refused : SaveRefused) → result ≡ Err refused → (refused ≡ Label) ⊎ ((refused ≡ Nothing) ⊎ (refused ≡ TableFull)) → (vault.failed ≡ false) × (save_refusal label vault ≡ Some refused)

-- The save is in the table under its id, and where it is refused the table stays.
pub record PutsIncident (label : List ℕ) (old : VaultState) (table_now : List (Option Incident)) (result : Result ℕ SaveRefused) : Type 0 where
  -- the id is that of the free slot of least index
  pub id : IfOk result (λ id. option_map suc (position is_none old.table) ≡ Some id)
  -- the table has the save under its id: its label, its last place and its stamp
  pub table : IfOk result (λ id. (saved : Incident) × (table_now ≡ with_slot old.table id (Some saved)) × (saved.label ≡ label)
      × (saved.b ≡ old.next_place - 1) × (old.last ≡ Some (of_stamp saved.stamp)))
  -- after an error the table is as before
  pub kept : OnErr result (table_now ≡ old.table)

-- A release is refused exactly where no live save has this id; it leaves all as it is, and so does a vault that a write had failed.
pub record RefusesRelease {T S M : Type 0} (id : ℕ) (vault : VaultState) (old new : S) (before after : M) (result : Result T ReleaseRefused) : Type 0 where
  -- where a write had failed, a fault is answered and nothing is called
  pub failed : vault.failed ≡ true → (result ≡ Err a_release_fault) × (new ≡ old) × (after ≡ before)
  -- where no live save has the id, that is answered and nothing is called
  pub refused : vault.failed ≡ false → live vault.table id ≡ None → (result ≡ Err NoSuch) × (new ≡ old) × (after ≡ before)
  -- and it is answered only there
  pub reason : result ≡ Err NoSuch → (vault.failed ≡ false) × (live vault.table id ≡ None)

-- The slot of the id is free, and where the call fails the table stays.
pub record FreesSlot {T E : Type 0} (id : ℕ) (old new : List (Option Incident)) (result : Result T E) : Type 0 where
  -- after Ok the slot is free
  pub table : OnOk result (new ≡ with_slot old id None)
  -- after an error the table is as before
  pub kept : OnErr result (new ≡ old)

-- A cursor of a play after a step.
pub record StandsAfter (ring : RingState) (cursor : CursorState) (result : Result Bool ReadRefused) : Type 0 where
  -- it has a record exactly where one was found
  pub item : cursor.visit.item ≢ None ↔ (result ≡ Ok true)
  -- it may step on
  pub may : MayStep ring cursor

-- A step of a play on medium m keeps the vault over its media, whatever it answers.
pub record KeepsPlayed {M : Type 0} (media : MediaTells M) (m : ℕ) (old new : VaultState) (before after : M) : Type 0 where
  -- only the buffer of the ring on medium m may have changed
  pub vault : ReadsOn m old new
  -- each ring is its medium's
  pub rings : AreRings new (media.disk after).sizes
  -- a vault that stood over its media still does
  pub stands : (opening : Opening) (events : List Event) (placed : ℕ → List Placed) → Stands opening events old placed (media.disk before) → Stands opening events new placed (media.disk after)
  -- the slots that were loaded and judged still are
  pub judged : AreJudged old (media.disk before) → AreJudged new (media.disk after)
  -- and media that were readable still are
  pub readable : (opening : Opening) (events : List Event) (placed : ℕ → List Placed) → IsReadable opening events old placed (media.disk before) → IsReadable opening events new placed (media.disk after)
  -- nothing was written
  pub unchanged : Unchanged (media.disk before) (media.disk after)

-- It reads medium m alone, and an error has its cause.
pub record ReadsForPlay {M : Type 0} (media : MediaTells M) (m : ℕ) (old new : VaultState) (before after : M) (result : Result Bool ReadRefused) : Type 0 where
  -- where a write had failed, a fault is answered and nothing is called
  pub failed : old.failed ≡ true → (result ≡ Err a_read_fault) × (new ≡ old) × (after ≡ before)
  -- no byte of another medium was read
  pub counts : ReadsNoOther m (media.bytes_read before) (media.bytes_read after)
  -- no count of faults falls, and a fault has its cause
  pub cause : HasReadCause m old.failed (media.faults before) (media.faults after) result

-- How the cursor of a play stands after a step, what damage it names, and that it passes over none.
pub record StepsAmong {M : Type 0} (media : MediaTells M) (query : Query) (old new : VaultState) (from to : CursorState) (before after : M) (result : Result Bool ReadRefused) : Type 0 where
  -- it stands between the records of its slot, as it did
  pub among : media.tells → AreJudged old (media.disk before) → StandsAmong (ring_for old query) (media.disk before) from.visit → StandsAmong (ring_for new query) (media.disk after) to.visit
  -- it stands in a segment that meets the query, as it did
  pub meets : StandsFor query old from.standing → StandsFor query new to.standing
  -- all segments that meet the query and that it passes are intact
  pub passed : media.tells → AreJudged old (media.disk before) → AreApart (ring_for old query).directory.index → StandsFor query old from.standing
      → ArePassedFor query old (media.disk before) from.standing → ArePassedFor query new (media.disk after) to.standing
  -- and where no further record is there, all that meet it are
  pub whole : result ≡ Ok false → media.tells → AreJudged old (media.disk before) → AreApart (ring_for old query).directory.index → StandsFor query old from.standing
      → ArePassedFor query old (media.disk before) from.standing → AreIntactFor query old (media.disk before)
  -- damage is on the query's medium
  pub medium : (m offset : ℕ) → result ≡ Err (damage_read m offset) → m ≡ medium_of query.medium
  -- where one of its slots is not intact
  pub damaged : (m offset : ℕ) → result ≡ Err (damage_read m offset) → media.tells → AreJudged old (media.disk before) → StandsAmong (ring_for old query) (media.disk before) from.visit
      → IsDamagedOn old.config (media.disk before) m offset
  -- that of the first segment that meets the query and is damaged
  pub met : (m offset : ℕ) → result ≡ Err (damage_read m offset) → media.tells → AreJudged old (media.disk before) → StandsAmong (ring_for old query) (media.disk before) from.visit
      → StandsFor query old from.standing → (AreApart (ring_for old query).directory.index → ArePassedFor query old (media.disk before) from.standing)
      → IsMetAt query old (media.disk before) offset
  -- a step to a record leaves fewer of them
  pub onward : result ≡ Ok true → steps_left to < steps_left from

module _ {tells tells_images : Type 0} where
  -- Damage that a save meets: media that hold what was recorded have none, and of others nothing was written.
  pub record MeetsDamage (old new : VaultState) (before after : Disk tells tells_images) (result : Result ℕ SaveRefused) : Type 0 where
    -- media that hold what was recorded have no damage
    pub undamaged : (opening : Opening) (events : List Event) (placed : ℕ → List Placed) (m offset : ℕ) → tells → Stands opening events old placed before → result ≡ Err (Damaged m offset) → ⊥
    -- a vault that stood over them still does
    pub stands : (opening : Opening) (events : List Event) (placed : ℕ → List Placed) (m offset : ℕ) → tells → result ≡ Err (Damaged m offset)
        → Stands opening events old placed before → Stands opening events new placed after
    -- nothing was written, no write has failed, and the damage is on the long-term medium
    pub damaged : (m offset : ℕ) → result ≡ Err (Damaged m offset) → Unchanged before after × (new.failed ≡ false) × (m ≡ 1)
    -- where one of its slots is not intact, or at offset 0, where it has not all records of the incident
    pub named : (m offset : ℕ) → result ≡ Err (Damaged m offset) → tells → AreJudged old before → (offset ≡ 0) ⊎ IsDamagedOn old.config before m offset

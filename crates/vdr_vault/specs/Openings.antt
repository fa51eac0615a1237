-- What a stop leaves while media are opened.
use Rattle.std.specs.Prelude.{◌≡◌, ◌⊎◌, ◌<◌, ◌≤◌, ℕ, List, [], take, drop, get_or, sum, All, Any, option_map, Result, Err, IfOk, OnOk, OnErr, IsErrOf, false, ⊤}
use Rattle.vdr_terms.specs.Records.{Record, last}
use Rattle.vdr_durability.specs.Readings.{AreLevel, EndsMeet, next_after}
use Rattle.vdr_outside.specs.Causes.{NoneFalls, Rose}
use Rattle.vdr_outside.specs.Disk.{Disk, Image, SameBut, Unchanged, content}
use Rattle.vdr_outside.specs.Moments.{AtEachMoment}
use Rattle.vdr_outside.specs.declared.fault.Fault.{Fault}
use Rattle.vdr_outside.specs.declared.media.Media.{Ghosts as MediaTells}
use Rattle.vdr_media.specs.Formatted.{IsFormatted, IsUnformatted}
use Rattle.vdr_directory.specs.Sequence.{Placed, all_records}
use Rattle.vdr_directory.specs.Telling.{TellsBy}
use Rattle.vdr_ring.specs.Keeping.{AreWhole}
use Rattle.vdr_incident.specs.Tables.{HoldsTable}
use Rattle.vdr_opening.specs.declared.refused.OpenRefused.{OpenRefused}
use Rattle.vdr_opening.specs.declared.refused.OpenRefused.TheVariants.{Damaged, Fault as a_fault, NotFormatted}
use Rattle.vdr_opening.specs.Media.{members_with, Contents, HoldsContents, HoldsParts, IsMedium, opening_of, reading_of}
use Rattle.vdr_opening.specs.Refusals.{IsRefused}
use Rattle.vdr_opening.specs.Answers.{HasOpenCause, IsMissing, OpenedState}
use Rattle.vdr_vault.specs.Vaults.{AreJudged, AreRings, IsReadable, VaultState, ShowsHistory, Stands, of_stamp, ring_of, tick_utc}
use Rattle.vdr_vault.specs.Regularity.{AreSound}

-- What was read, as the vault that is made of it and the batch that the media from a number on lack.
abbrev pub opened_with : VaultState → List Record → (lacking : ℕ) → OpenedState
opened_with vault missing lacking = record { config = vault.config; rings = vault.rings; table = vault.table; missing = missing; lacking = lacking }

-- No count of faults falls, and an error comes only where that of one of the media rose, and so their sum.
pub record HasCauseOnBoth {T E : Type 0} (members : List ℕ) (before now : List ℕ) (result : Result T E) : Type 0 where
  pub later : NoneFalls before now
  pub by_medium : OnErr result (Any (λ m. Rose (get_or before m 0) (get_or now m 0)) members)
  pub in_all : OnErr result (Rose (sum before) (sum now))

-- What the vault tells is this: the configuration, the incidents, the next place, and tick and utc of the last record.
pub record IsToldBy (x : Contents) (vault : VaultState) : Type 0 where
  pub config : vault.config ≡ x.config
  pub table : vault.table ≡ x.table
  pub place : vault.next_place ≡ (opening_of x).next_place
  pub last : vault.last ≡ option_map of_stamp (opening_of x).last

-- The vault goes on behind the capsule's last record.
pub record GoesOnBehind (x : Contents) (vault : VaultState) : Type 0 where
  pub place : vault.next_place ≡ next_after (last (all_records (x.placed 0)))
  pub newest : vault.last ≡ option_map tick_utc (last (all_records (x.placed 0)))

-- Opening appends nothing to medium m: it is the capsule, or both media end with the last batch.
abbrev pub IsLeftAsRead : Contents → ℕ → Type 0
IsLeftAsRead x m = (m ≡ 0) ⊎ AreLevel (members_with x.further) (reading_of x)

-- The ring on such a medium tells of these segments, as opening knows them.
abbrev pub TellsOfParts : Contents → VaultState → Type 0
TellsOfParts x vault = All (λ m. IsLeftAsRead x m → TellsBy (ring_of vault m).slots (x.placed m) (ring_of vault m).directory) (members_with x.further)

-- Of media with these contents, sound or not, nothing else was written than the batch that the media from a number on lack: each of
-- those has whole batches of before, all but those of one segment at the most, with the missing one behind them or without.
pub record EndsWithin (x : Contents) (image : Image) : Type 0 where
  pub now : ℕ → List Placed
  pub media : All (λ m. IsMedium m x.config x.text (now m) (content image m)) (members_with x.further)
  pub table : HoldsTable x.config.incident_slots x.table (content image 1)
  pub missing : List Record
  pub lacking : ℕ
  pub behind : 0 < lacking
  pub lacks : IsMissing (members_with x.further) missing lacking (reading_of x)
  pub kept : All (λ m. now m ≡ x.placed m) (take lacking (members_with x.further))
  pub whole : All (λ m. AreWhole (x.placed m) (now m) missing) (drop lacking (members_with x.further))

module _ {tells tells_images : Type 0} where
  -- Nothing was written: a stop left what a stop before the call might have left.
  abbrev pub LeavesAll : Disk tells tells_images → Disk tells tells_images → Type 0
  LeavesAll old new = AtEachMoment old new (λ i. old.now i)

  -- The first syncs had succeeded at a moment of the call. Until then a stop may have left what a stop before the call might
  -- have left; from then on it left media that show what was opened.
  pub record GoesOnSynced (old new : Disk tells tells_images) (shows : Image → Type 0) : Type 0 where
    pub synced : ℕ
    pub after_entry : old.clock ≤ synced
    pub before_exit : synced ≤ new.clock
    pub moments : AtEachMoment old new (λ i. old.now i ⊎ shows i)
    pub since : (i : Image) → new.since synced i → shows i

  -- Of media with these contents, of which nothing is unsynced, opening leaves at each moment what shows them, and at most writes what
  -- one of them lacks.
  pub record OpensMeanwhile (x : Contents) (old new : Disk tells tells_images) : Type 0 where
    pub level : AreLevel (members_with x.further) (reading_of x) → Unchanged old new
    pub within : EndsMeet (members_with x.further) (reading_of x) → AtEachMoment old new (EndsWithin x)
    pub moments : EndsMeet (members_with x.further) (reading_of x) → AreSound x → AtEachMoment old new (ShowsHistory (opening_of x) [])

  -- A sync failed.
  pub record EndsBeforeSync {T : Type 0} (old new : Disk tells tells_images) (result : Result T OpenRefused) : Type 0 where
    pub failed : IsErrOf result a_fault
    pub moments : LeavesAll old new

  abbrev pub OpensAtEachMoment : {T : Type 0} → Disk tells tells_images → Disk tells tells_images → Result T OpenRefused → (Image → Type 0) → Type 0
  OpensAtEachMoment old new result shows = EndsBeforeSync old new result ⊎ GoesOnSynced old new shows

  -- What opening writes of media with these contents, sound or not: nothing where both end with the last batch, and else at most the
  -- batch that the long-term medium lacks.
  pub record WritesMissing (x : Contents) (old new : Disk tells tells_images) : Type 0 where
    pub level : AreLevel (members_with x.further) (reading_of x) → LeavesAll old new × (new.reads ≡ old.reads)
    pub missing : EndsMeet (members_with x.further) (reading_of x) → AtEachMoment old new (λ i. old.now i ⊎ EndsWithin x i)

  -- While the missing batch is appended a stop leaves media that show what was opened, and then the vault stands over it.
  pub record Reconciles (x : Contents) (vault : VaultState) (old new : Disk tells tells_images) (result : Result ⊤ Fault) : Type 0 where
    pub moments : AtEachMoment old new (ShowsHistory (opening_of x) [])
    pub done : OnOk result ((placed : ℕ → List Placed) × Stands (opening_of x) [] vault placed new)

  -- The vault that was opened, and what the media hold of it. They were formatted, what opening reads of them was legal, and where they
  -- are sound the vault stands.
  pub record OpensVault (result : Result VaultState OpenRefused) (old new : Disk tells tells_images) : Type 0 where
    -- where the media are sound the vault stands on them
    pub opened : IfOk result (λ vault. (x : Contents) → tells → HoldsContents old.reads x → AreSound x → (placed : ℕ → List Placed) × Stands (opening_of x) [] vault placed new)
    -- the media were formatted, and what the vault tells is what was read of them
    pub parts : IfOk result (λ vault. tells → IsFormatted old.reads × (x : Contents) × HoldsParts old.reads x × EndsMeet (members_with x.further) (reading_of x) × IsToldBy x vault)
    -- of a medium to which opening appended nothing, the ring tells of what was read
    pub known : IfOk result (λ vault. (x : Contents) → tells → HoldsParts old.reads x → TellsOfParts x vault)
    -- where they are legible it is what they hold
    pub contents : IfOk result (λ vault. (x : Contents) → tells → HoldsContents old.reads x → EndsMeet (members_with x.further) (reading_of x) × IsToldBy x vault)
    -- where both end with the last batch the vault can be read
    pub readable : IfOk result (λ vault. (x : Contents) → tells → HoldsContents old.reads x → AreLevel (members_with x.further) (reading_of x) → IsReadable (opening_of x) [] vault x.placed new)
    -- no write has failed
    pub works : IfOk result (λ vault. vault.failed ≡ false)
    -- the slot that each ring has loaded was judged
    pub judged : IfOk result (λ vault. tells → AreJudged vault new)
    -- each ring is its medium's
    pub rings : IfOk result (λ vault. AreRings vault new.sizes)

  -- The media were not formatted, or this is the first part that is not legal, and nothing was written.
  pub record RefusesMedia {T : Type 0} (result : Result T OpenRefused) (old new : Disk tells tells_images) : Type 0 where
    -- the media were not formatted
    pub unformatted : result ≡ Err NotFormatted → tells → IsUnformatted old.reads
    -- this is the first part that is not legal
    pub damaged : (m offset : ℕ) → result ≡ Err (Damaged m offset) → tells → IsFormatted old.reads × IsRefused old.reads m offset
    -- after either a stop leaves what it might have left before, and the media read as before
    pub untouched : (result ≡ Err NotFormatted) ⊎ ((m : ℕ) × (offset : ℕ) × (result ≡ Err (Damaged m offset))) → LeavesAll old new × (tells → new.reads ≡ old.reads)
    -- of media that are not formatted a stop leaves what it might have left before, whatever is answered
    pub blank : tells → IsUnformatted old.reads → LeavesAll old new

-- The call wrote to no medium but the long-term one.
pub record ReachesLongTerm {M T : Type 0} (media : MediaTells M) (old new : M) (result : Result T OpenRefused) : Type 0 where
  -- the other media read as before
  pub others : media.tells → SameBut 1 (media.disk old).reads (media.disk new).reads
  -- no medium changes its size
  pub sizes : (media.disk new).sizes ≡ (media.disk old).sizes
  -- no count of faults falls, and a fault has its cause
  pub cause : HasOpenCause (members_with 0) (media.faults old) (media.faults new) result

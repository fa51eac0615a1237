-- What each call of a recorder on its media is, what it refuses, and what it keeps.
use Rattle.std.specs.Prelude.{◌≡◌, ◌≤◌, ◌<◌, ◌⊎◌, ◌↔◌, ◌+◌, ◌*◌, ◌^◌, ◌++◌, ℕ, List, [], Bool, true, false, length, All, Some, None, option_map, Result, Err, IfOk, OnErr, OnOk, ⊤}
use Rattle.vdr_terms.specs.declared.counts.Counts.{Counts}
use Rattle.vdr_terms.specs.Counting.{next_number}
use Rattle.vdr_terms.specs.Rates.{is_configured}
use Rattle.vdr_terms.specs.Records.{total}
use Rattle.vdr_core.specs.Histories.{Event, Incident, Opening, live}
use Rattle.vdr_core.specs.Histories.Act.{Look, Release, Save}
use Rattle.vdr_core.specs.Runs.{RunStart, base_after}
use Rattle.vdr_core.specs.Taken.{Captured}
use Rattle.vdr_durability.specs.Readings.{AreLevel, EndsMeet}
use Rattle.vdr_config.specs.Sizes.{limits_in}
use Rattle.vdr_outside.specs.declared.media.Media.{Ghosts as MediaTells}
use Rattle.vdr_outside.specs.Disk.{Disk}
use Rattle.vdr_media.specs.Formatted.{IsFormatted}
use Rattle.vdr_opening.specs.Media.{members_with, Contents, HoldsContents, HoldsParts, opening_of, reading_of}
use Rattle.vdr_opening.specs.declared.refused.OpenRefused.{OpenRefused}
use Rattle.vdr_vault.specs.Openings.{IsToldBy, TellsOfParts}
use Rattle.vdr_vault.specs.declared.refused.SaveRefused.{SaveRefused}
use Rattle.vdr_vault.specs.declared.refused.SaveRefused.TheVariants.{Damaged}
use Rattle.vdr_vault.specs.Calls.{SameElsewhere}
use Rattle.vdr_vault.specs.Keeps.{KeepsHistory}
use Rattle.vdr_vault.specs.Regularity.{AreSound}
use Rattle.vdr_vault.specs.Saves.{save_refusal}
use Rattle.vdr_vault.specs.Vaults.{AreJudged, AreRings, IsReadable, VaultState}
use Rattle.vdr_recorder.specs.declared.run.StartRefused.{StartRefused}
use Rattle.vdr_recorder.specs.declared.run.StartRefused.TheVariants.{Place, Tick, Fault}
use Rattle.vdr_run.specs.Making.{counted_of}
use Rattle.vdr_recorder.specs.Making.{FitBehind, MakesBy, NumbersFit, numbers_of}
use Rattle.vdr_recorder.specs.Recordings.{HasDone, HasRecorded, RecorderState}
use Rattle.vdr_recorder.specs.Refusals.{HasStartCause}
use Rattle.vdr_run.specs.Starts.{stamp_of}

-- A save is an event of this id and these places; one that is refused is a look.
pub record SavesAsEvent {M : Type 0} (media : MediaTells M) (label : List ℕ) (old new : RecorderState) (before after : M) (result : Result ℕ SaveRefused) : Type 0 where
  -- a save that was not refused is an event of this id and these places
  pub saved : (opening : Opening) (events : List Event) (t0 : ℕ) → media.tells → old.vault.failed ≡ false → save_refusal label old.vault ≡ None
      → ((m offset : ℕ) → result ≡ Err (Damaged m offset) → ⊥) → HasRecorded opening events t0 old (media.disk before)
      → (id : ℕ) × (a : ℕ) × (b : ℕ) × IfOk result (λ told. told ≡ id) × HasDone opening events t0 (Save id label a b) new (media.disk before) (media.disk after)
  -- one that was refused is a look
  pub looked : (opening : Opening) (events : List Event) (t0 : ℕ) (refused : SaveRefused) → (old.vault.failed ≡ true) ⊎ (save_refusal label old.vault ≡ Some refused)
      → HasRecorded opening events t0 old (media.disk before) → HasDone opening events t0 Look new (media.disk before) (media.disk after)
  -- and so is one that met damage
  pub met_damage : (opening : Opening) (events : List Event) (t0 m offset : ℕ) → media.tells → result ≡ Err (Damaged m offset)
      → HasRecorded opening events t0 old (media.disk before) → HasDone opening events t0 Look new (media.disk before) (media.disk after)

-- A release is an event of this id; one that is refused is a look.
pub record ReleasesAsEvent {M : Type 0} (media : MediaTells M) (id : ℕ) (old new : RecorderState) (before after : M) : Type 0 where
  -- the release of a live save is an event
  pub released : (opening : Opening) (events : List Event) (t0 : ℕ) (saved : Incident) → media.tells → old.vault.failed ≡ false → live old.vault.table id ≡ Some saved
      → HasRecorded opening events t0 old (media.disk before) → HasDone opening events t0 (Release id) new (media.disk before) (media.disk after)
  -- one that was refused is a look
  pub looked : (opening : Opening) (events : List Event) (t0 : ℕ) → (old.vault.failed ≡ true) ⊎ (live old.vault.table id ≡ None)
      → HasRecorded opening events t0 old (media.disk before) → HasDone opening events t0 Look new (media.disk before) (media.disk after)

-- All that tells what was recorded stays, and so does the run.
pub record KeepsRecorder (old new : RecorderState) (sizes : List ℕ) : Type 0 where
  -- what the vault tells of the history is as before
  pub vault : KeepsHistory old.vault new.vault sizes
  -- what the run has counted is as before
  pub maker : new.maker ≡ old.maker
  -- a run is open as before
  pub is_open : new.is_open ≡ old.is_open

-- A start is refused exactly where the next place, or the tick of the Start, is 2^62 or more.
pub record StaysBelowLimits {T : Type 0} (vault : VaultState) (result : Result T StartRefused) : Type 0 where
  -- Place exactly where the next place is 2^62 or more
  pub place : vault.failed ≡ false → (result ≡ Err Place) ↔ (2 ^ 62 ≤ vault.next_place)
  -- Tick exactly where the place is below it, and the tick of the Start is not
  pub tick : vault.failed ≡ false → (result ≡ Err Tick) ↔ ((vault.next_place < 2 ^ 62) × (2 ^ 62 ≤ base_after (option_map stamp_of vault.last)))

-- A start that is refused leaves all as it is, and so does a vault that a write had failed.
pub record RefusesStart {T M : Type 0} (old new : RecorderState) (before after : M) (result : Result T StartRefused) : Type 0 where
  -- after either nothing was called
  pub refused : (result ≡ Err Place) ⊎ (result ≡ Err Tick) → (new ≡ old) × (after ≡ before)
  -- where a write had failed, a fault is answered and nothing is called
  pub failed : old.vault.failed ≡ true → (result ≡ Err Fault) × (new ≡ old) × (after ≡ before)

-- After Ok a run is open, which has counted nothing but its Start.
pub record BeginsRun {T : Type 0} (old new : RecorderState) (sizes : List ℕ) (result : Result T StartRefused) : Type 0 where
  -- after a fault a write has failed
  pub fails : result ≡ Err Fault → new.vault.failed ≡ true
  -- after Ok none has
  pub works : OnOk result (new.vault.failed ≡ false)
  -- after Ok a run is open
  pub opens : OnOk result (new.is_open ≡ true)
  -- after an error none is
  pub closed : OnErr result (new.is_open ≡ false)
  -- after Ok the place is small, and nothing was counted
  pub numbers : OnOk result ((new.maker.place ≤ 2 ^ 62) × ((g : ℕ) → g < 16 → next_number (counted_of new.maker g).pending ≡ 0))
  -- after Ok it has taken no item in its run
  pub makes : OnOk result ((start : RunStart) × MakesBy new.vault.config start [] new.maker)
  -- the configuration is as before
  pub config : new.vault.config ≡ old.vault.config
  -- each ring is its medium's
  pub rings : AreRings new.vault sizes

-- The call wrote to the capsule and the long-term medium alone and read nothing. A fault has its cause.
pub record WritesStart {M : Type 0} (media : MediaTells M) (failed : Bool) (old new : M) (result : Result ⊤ StartRefused) : Type 0 where
  -- the other media read as before
  pub others : media.tells → SameElsewhere (members_with 0) (media.disk old).reads (media.disk new).reads
  -- no medium changes its size
  pub sizes : (media.disk new).sizes ≡ (media.disk old).sizes
  -- nothing was read
  pub counts : media.bytes_read new ≡ media.bytes_read old
  -- no count of faults falls, and a fault has its cause
  pub cause : HasStartCause failed (media.faults old) (media.faults new) result

-- One batch may take these items: their records fit it, and they are of configured groups. The run's numbers stay below 2^63.
pub record FitBatch (items : List Captured) (old : RecorderState) : Type 0 where
  -- behind what the run has taken, their records are no longer than the configured batch
  pub short : FitBehind old.vault.config old.maker items old.vault.config.batch
  -- each one's group is configured
  pub configured : All (λ c. is_configured (limits_in old.vault.config.groups c.group) ≡ true) items
  -- the places of their records are below 2^63
  pub places : old.maker.place + 2 * length items < 2 ^ 63
  -- and so are the numbers of each group's items
  pub numbers : NumbersFit old.maker items

-- The run may be closed by these counts: a group that is not configured missed nothing. The run's numbers stay below 2^63.
pub record FitClose (rest : ℕ → Counts) (old : RecorderState) : Type 0 where
  -- a group that is not configured missed nothing
  pub quiet : (g : ℕ) → is_configured (limits_in old.vault.config.groups g) ≡ false → total (rest g) ≡ 0
  -- the places of the closing Gaps and of the Stop are below 2^63
  pub place : old.maker.place + 17 < 2 ^ 63
  -- and so are the numbers of each group's items
  pub numbers : (g : ℕ) → g < 16 → next_number (counted_of old.maker g).pending + total (rest g) < 2 ^ 63

-- The run goes on with these items, with two records an item at most.
pub record GoesOnWith (items : List Captured) (old new : RecorderState) (sizes : List ℕ) : Type 0 where
  -- the run stays open
  pub stays_open : new.is_open ≡ true
  -- where no write had failed, it has taken these items behind those before
  pub makes : old.vault.failed ≡ false → (start : RunStart) (popped : List Captured) → MakesBy old.vault.config start popped old.maker
      → MakesBy new.vault.config start (popped ++ items) new.maker
  -- an item takes two places at most
  pub places : new.maker.place ≤ old.maker.place + 2 * length items
  -- a group counts no more than its items
  pub numbers : (g : ℕ) → g < 16 → next_number (counted_of new.maker g).pending ≤ next_number (counted_of old.maker g).pending + numbers_of g items
  -- the configuration is as before
  pub config : new.vault.config ≡ old.vault.config
  -- each ring is its medium's
  pub rings : AreRings new.vault sizes

-- No run is open, unless a write had failed before.
pub record EndsRun (old new : RecorderState) (sizes : List ℕ) : Type 0 where
  -- no run is open, where no write had failed
  pub closed : old.vault.failed ≡ false → new.is_open ≡ false
  -- the configuration is as before
  pub config : new.vault.config ≡ old.vault.config
  -- each ring is its medium's
  pub rings : AreRings new.vault sizes

module _ {tells tells_images : Type 0} where
  -- The recorder that was opened, and what the media hold of it. They were formatted, what opening reads of
  -- them was legal, and where they are sound it has recorded nothing yet.
  pub record OpensRecorder (result : Result RecorderState OpenRefused) (old new : Disk tells tells_images) : Type 0 where
    -- where the media are sound, nothing is recorded on them since a moment of the call
    pub opened : IfOk result (λ r. (x : Contents) → tells → HoldsContents old.reads x → AreSound x → (t0 : ℕ) × (old.clock ≤ t0) × (t0 ≤ new.clock) × HasRecorded (opening_of x) [] t0 r new)
    -- the media were formatted, and what the recorder tells is what was read of them
    pub parts : IfOk result (λ r. tells → IsFormatted old.reads × (x : Contents) × HoldsParts old.reads x × EndsMeet (members_with x.further) (reading_of x) × IsToldBy x r.vault)
    -- of a medium to which opening appended nothing, the ring tells of what was read
    pub known : IfOk result (λ r. (x : Contents) → tells → HoldsParts old.reads x → TellsOfParts x r.vault)
    -- where they are legible it is what they hold
    pub contents : IfOk result (λ r. (x : Contents) → tells → HoldsContents old.reads x → EndsMeet (members_with x.further) (reading_of x) × IsToldBy x r.vault)
    -- where both end with the last batch it can be read
    pub readable : IfOk result (λ r. (x : Contents) → tells → HoldsContents old.reads x → AreLevel (members_with x.further) (reading_of x) → IsReadable (opening_of x) [] r.vault x.placed new)
    -- no write has failed
    pub works : IfOk result (λ r. r.vault.failed ≡ false)
    -- the slot that each ring has loaded was judged
    pub judged : IfOk result (λ r. tells → AreJudged r.vault new)
    -- no run is open
    pub closed : IfOk result (λ r. r.is_open ≡ false)
    -- each ring is its medium's
    pub rings : IfOk result (λ r. AreRings r.vault new.sizes)

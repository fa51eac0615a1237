-- What the calls that read a ring's slots keep, and what they answer.
use Rattle.std.specs.Prelude.{◌≡◌, ◌≢◌, ◌↔◌, ◌<◌, ◌≤◌, ◌+◌, ◌^◌, ℕ, Bool, true, List, [], get_or, IfOk, OnOk, Some, None, Result, Ok, Err}
use Rattle.std.specs.declared.alloc.Global.{Global}
use Rattle.std.specs.declared.vec.Vec.{Vec}
use Rattle.vdr_terms.specs.Records.{Record, last}
use Rattle.vdr_terms.specs.Sizes.{batch_size}
use Rattle.vdr_outside.specs.declared.fault.PartRefused.{PartRefused}
use Rattle.vdr_outside.specs.declared.fault.PartRefused.TheVariants.{Damaged as APartDamaged}
use Rattle.vdr_outside.specs.declared.media.Media.{Ghosts as MediaTells}
use Rattle.vdr_outside.specs.Causes.{NoneFalls, Rose, counted}
use Rattle.vdr_outside.specs.Disk.{Unchanged, content}
use Rattle.vdr_segment.specs.Slots.{place_of}
use Rattle.vdr_index.specs.declared.selection.Selection.{Selection}
use Rattle.vdr_directory.specs.Sequence.{Placed, batches_in}
use Rattle.vdr_ring.specs.Rings.{HasMedium, Knows, Reads, RingState}
use Rattle.vdr_ring.specs.Visits.{AreAhead, VisitState, HasJudged, IsLoaded, StandsAmong, StandsIn, Steps, Visits, position_in, slot_read}
use Rattle.vdr_ring.specs.Damage.{HasDamage, IsDamagedIn, IsIntact}
use Rattle.vdr_ring.specs.Lasts.{batch_or_none}
use Rattle.vdr_ring.specs.declared.refused.ReadRefused.{ReadRefused}
use Rattle.vdr_ring.specs.declared.refused.ReadRefused.TheVariants.{Damaged}

-- The ring has read of its medium: only its buffer may have changed, and nothing was written.
pub record OnlyReads {M : Type 0} (media : MediaTells M) (old new : RingState) (before after : M) : Type 0 where
  -- all but its buffer is as before
  pub ring : new ≡ record old { buffer = new.buffer; loaded = new.loaded }
  -- its medium is among the media
  pub room : HasMedium new (media.disk after).sizes
  -- a buffer that held what its slot reads as still does
  pub bytes : IsLoaded old (media.disk before) → IsLoaded new (media.disk after)
  -- a slot that was loaded and judged still is
  pub judged : HasJudged old (media.disk before) → HasJudged new (media.disk after)
  -- what the medium read as it still does
  pub reads : (placed : List Placed) → Reads old placed (media.disk before) → Reads new placed (media.disk after)
  -- what was known of its parts still is
  pub knows : (known : List Placed) → Knows old known (media.disk before) → Knows new known (media.disk after)
  -- nothing was written
  pub unchanged : Unchanged (media.disk before) (media.disk after)

-- A step of a visit to the next record of a slot that is selected.
pub record StepsInSlot {M : Type 0} (media : MediaTells M) (selection : Selection) (slot : ℕ) (old new : RingState) (from to : VisitState) (before : M) (result : Result Bool ReadRefused) : Type 0 where
  -- the visit may go on from there
  pub stands : StandsIn new to
  -- it has a record exactly where one was found
  pub item : to.item ≢ None ↔ (result ≡ Ok true)
  -- after Ok the slot is the one that is loaded
  pub loaded : OnOk result (new.loaded ≡ Some slot)
  -- and it is intact: its batches are legal, and agree with the summary in its header
  pub intact : OnOk result (media.tells → HasJudged old (media.disk before) → IsIntact (slot_read old slot (media.disk before)))
  -- a step to a record goes on in the slot
  pub onward : result ≡ Ok true → (to.slot ≡ Some slot) × ((position_in slot from).at < to.position.at) × (to.position.at < 2 ^ 24)
  -- what was found, by the bytes of the slot
  pub steps : media.tells → IsLoaded old (media.disk before) → Steps selection old.medium slot (place_of old.segment slot) (slot_read old slot (media.disk before)) from result to
  -- what was found, by the records that were ahead
  pub visits : media.tells → (placed : List Placed) (records : List Record) → Reads old placed (media.disk before)
      → AreAhead (slot_read old slot (media.disk before)) placed slot from records
      → Visits selection (slot_read old slot (media.disk before)) placed slot records result to
  -- the visit stands between the records of its slot, as it did
  pub among : media.tells → HasJudged old (media.disk before) → StandsAmong old (media.disk before) from → StandsAmong old (media.disk before) to
  -- damage is on the ring's medium
  pub medium : (m offset : ℕ) → result ≡ Err (Damaged m offset) → m ≡ old.medium
  -- and where the slot is not intact
  pub damaged : media.tells → HasJudged old (media.disk before) → StandsAmong old (media.disk before) from → (m offset : ℕ) → result ≡ Err (Damaged m offset)
      → IsDamagedIn old.segment slot (content (media.disk before).reads old.medium) offset

-- The slot was read whole where it was not loaded, and else nothing. A fault has its cause.
pub record ReadsUnlessLoaded {M : Type 0} (media : MediaTells M) (slot : ℕ) (ring : RingState) (before after : M) (faulted : Type 0) : Type 0 where
  -- nothing is read of a slot that is loaded
  pub again : ring.loaded ≡ Some slot → media.bytes_read after ≡ media.bytes_read before
  -- any other is read once
  pub once : ring.loaded ≢ Some slot → media.bytes_read after ≡ counted (media.bytes_read before) ring.medium ring.segment
  -- no count of faults falls
  pub later : NoneFalls (media.faults before) (media.faults after)
  -- a fault comes only where that of the ring's medium rose
  pub rose : faulted → Rose (get_or (media.faults before) ring.medium 0) (get_or (media.faults after) ring.medium 0)

-- The records of the medium's last batch, or where its slot is damaged.
pub record GivesLastBatch {M : Type 0} (media : MediaTells M) (ring : RingState) (before : M) (result : Result (Vec Record Global) PartRefused) : Type 0 where
  -- they are those of the last batch, none where there is none
  pub batch : IfOk result (λ records. media.tells → (placed : List Placed) → Reads ring placed (media.disk before) → batch_or_none records.items ≡ last (batches_in placed))
  -- and so it is by what is known of the segments
  pub known : IfOk result (λ records. media.tells → (known : List Placed) → Knows ring known (media.disk before) → batch_or_none records.items ≡ last (batches_in known))
  -- a segment that has no other batch has room for them
  pub fits : IfOk result (λ records. records.items ≢ [] → 64 + batch_size records.items + 1 ≤ ring.segment)
  -- a medium that reads as segments has no damage there
  pub undamaged : media.tells → (placed : List Placed) → Reads ring placed (media.disk before) → (m offset : ℕ) → result ≡ Err (APartDamaged m offset) → ⊥
  -- nor has one whose segments are known
  pub undamaged_known : media.tells → (known : List Placed) → Knows ring known (media.disk before) → (m offset : ℕ) → result ≡ Err (APartDamaged m offset) → ⊥
  -- damage is on the ring's medium
  pub medium : (m offset : ℕ) → result ≡ Err (APartDamaged m offset) → m ≡ ring.medium
  -- and where one of its slots is not intact
  pub damaged : media.tells → HasJudged ring (media.disk before) → (m offset : ℕ) → result ≡ Err (APartDamaged m offset)
      → HasDamage ring.segment ring.slots (content (media.disk before).reads ring.medium) offset

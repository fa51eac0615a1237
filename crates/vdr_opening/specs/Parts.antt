-- What the parts of opening owe each other. No public clause cites it, but for what an answer of a part is as an answer of all.
use Rattle.std.specs.Prelude.{◌≡◌, ◌<◌, ◌≤◌, ◌∷◌, ◌++◌, ℕ, List, length, get_or, drop, All, Any, IfSome, Option, Some, option_map, Result, IsErrOf}
use Rattle.vdr_core.specs.Histories.{Incident}
use Rattle.vdr_outside.specs.Causes.{NoneFalls, Rose}
use Rattle.vdr_outside.specs.Disk.{Disk, Unchanged, content}
use Rattle.vdr_outside.specs.declared.fault.PartRefused.{PartRefused}
use Rattle.vdr_outside.specs.declared.fault.PartRefused.TheVariants as parts
use Rattle.vdr_config.specs.Configuration.{Configuration}
use Rattle.vdr_segment.specs.Gates.{IsOpenAt}
use Rattle.vdr_directory.specs.Telling.{HoldAllBy}
use Rattle.vdr_ring.specs.Rings.{RingState}
use Rattle.vdr_ring.specs.Rings as rings
use Rattle.vdr_ring.specs.Visits.{HasJudged}
use Rattle.vdr_directory.specs.Sequence.{Placed}
use Rattle.vdr_incident.specs.Tables.{HoldsTable, place_of}
use Rattle.vdr_terms.specs.Slots.{slot_count}
use Rattle.vdr_media.specs.Layout.{superblock_bytes}
use Rattle.vdr_opening.specs.declared.refused.OpenRefused.{OpenRefused}
use Rattle.vdr_opening.specs.declared.refused.OpenRefused.TheVariants.{NoMemory, Damaged, Fault}
use Rattle.vdr_opening.specs.declared.text.Configured.{Configured}
use Rattle.vdr_opening.specs.Media.{AreThereBy, IsMedium, IsMediumBy}
use Rattle.vdr_opening.specs.Answers.{AreRingsOf, members_on, ring_at}

-- The text of the configuration of the medium before, where there is one.
abbrev pub text_of : Option Configured → Option (List ℕ)
text_of before = option_map (λ first. first.text.items) before

-- What is said of media of which a part is refused.
abbrev pub refusal_by : PartRefused → OpenRefused
refusal_by parts.NoMemory = NoMemory
refusal_by (parts.Damaged m offset) = Damaged m offset
refusal_by parts.Fault = Fault

-- The first 23 bytes of medium m, which has so many bytes, are a legal superblock with this segment size.
pub record SaysSegment (m size segment : ℕ) (bytes : List ℕ) : Type 0 where
  pub gate : IsOpenAt bytes 0
  pub fields : drop 1 bytes ≡ superblock_bytes m size segment (slot_count segment size)
  pub segment_low : 8192 ≤ segment
  pub segment_high : segment ≤ 16777216

-- There is such a medium, with room for all that stands before the segments.
pub record HasRoomBefore (m : ℕ) (sizes : List ℕ) : Type 0 where
  pub there : m < length sizes
  pub room : 32768 ≤ get_or sizes m 0

module _ {tells tells_images : Type 0} where
  -- What opening reads of medium m is legal but for its incident slots, and the ring knows it.
  pub record KnowsMedium (m : ℕ) (c : Configuration) (text : List ℕ) (known : List Placed) (ring : RingState) (disk : Disk tells tells_images) : Type 0 where
    pub legal : IsMediumBy m c text known (content disk.reads m)
    pub knows : rings.Knows ring known disk

  -- The ring reads as the segments of its medium, where that is legal.
  abbrev pub ReadsLegal : (m : ℕ) (c : Configuration) (text : List ℕ) → RingState → Disk tells tells_images → Type 0
  ReadsLegal m c text ring disk = (placed : List Placed) → IsMedium m c text placed (content disk.reads m) → rings.Reads ring placed disk

  -- The ring on each of the media knows these segments.
  abbrev pub AreKnownTo : List RingState → (ℕ → List Placed) → Disk tells tells_images → Type 0
  AreKnownTo on known disk = All (λ m. rings.Knows (ring_at on m) (known m) disk) (members_on on)

  -- Rings read from their media: each is that of its medium as it was, and reads as it did. Nothing was written.
  pub record KeepsRings (old new : List RingState) (before after : Disk tells tells_images) : Type 0 where
    pub size : length new ≡ length old
    pub of_media : (c : Configuration) (sizes : List ℕ) → AreRingsOf c sizes old → AreRingsOf c sizes new
    pub reads : (m : ℕ) (placed : List Placed) → rings.Reads (ring_at old m) placed before → rings.Reads (ring_at new m) placed after
    pub knows : (m : ℕ) (known : List Placed) → rings.Knows (ring_at old m) known before → rings.Knows (ring_at new m) known after
    pub judged : (m : ℕ) → HasJudged (ring_at old m) before → HasJudged (ring_at new m) after
    pub unchanged : Unchanged before after

-- An incident slot is free, or all places of its incident stand in these segments, by what is known of them.
abbrev pub IsThere : List Placed → Option Incident → Type 0
IsThere known slot = IfSome slot (λ incident. HoldAllBy incident.a incident.b known)

-- The slot of this index is the first whose places do not all stand in these segments.
pub record LacksPlaces (table : List (Option Incident)) (known : List Placed) (slot : ℕ) : Type 0 where
  pub before : List (Option Incident)
  pub here : Incident
  pub after : List (Option Incident)
  pub split : table ≡ before ++ Some here ∷ after
  pub index : length before ≡ slot
  pub there : AreThereBy before known
  pub missing : HoldAllBy here.a here.b known → ⊥

-- These bytes hold a table of so many slots, and the first whose places do not all stand in these segments begins at this offset.
pub record LacksPlacesAt (slots : ℕ) (known : List Placed) (bytes : List ℕ) (offset : ℕ) : Type 0 where
  pub table : List (Option Incident)
  pub holds : HoldsTable slots table bytes
  pub slot : ℕ
  pub lacks : LacksPlaces table known slot
  pub at : offset ≡ place_of slot

-- The count of no medium falls. A fault comes only where that of one of the media rose.
pub record HasPartCause {T : Type 0} (members : List ℕ) (before now : List ℕ) (result : Result T PartRefused) : Type 0 where
  pub later : NoneFalls before now
  pub rose : IsErrOf result parts.Fault → Any (λ m. Rose (get_or before m 0) (get_or now m 0)) members

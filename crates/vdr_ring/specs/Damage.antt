-- A slot as it is read whole: whether its segment is legal and agrees with the summary in its header, or where it does not (this
-- project's profile).
use Rattle.std.specs.Prelude.{◌≡◌, ◌⊎◌, ◌<◌, ◌+◌, ℕ, List, take, drop, Option, Some, None, ⊤}
use Rattle.vdr_terms.specs.Records.{Record}
use Rattle.vdr_entry.specs.declared.summary.Summary.{Summary}
use Rattle.vdr_segment.specs.declared.header.Header.{Header}
use Rattle.vdr_segment.specs.Gates.{IsOpenAt}
use Rattle.vdr_segment.specs.Headers.{IsHeader}
use Rattle.vdr_segment.specs.Segments.{AreBatches}
use Rattle.vdr_segment.specs.Slots.{place_of}
use Rattle.vdr_index.specs.Audits.{Agree, DisagreesAt}
use Rattle.vdr_index.specs.Surveys.{BreaksAt}
use Rattle.vdr_directory.specs.Opening.{slot_bytes}

-- The first batch of a segment that is not legal, or does not agree with the summary in its header, if it has one, is at this offset
-- of its slot; or its batches end there with fewer records than that counts.
abbrev pub FailsBy : Option Summary → (first : ℕ) → List ℕ → ℕ → Type 0
FailsBy None first bytes at = BreaksAt bytes at
FailsBy (Some s) first bytes at = DisagreesAt bytes first s at

-- The slot with these bytes is open, and its first part that is not legal or does not agree is at this offset: the header, at 0, or
-- else such a batch.
pub record IsDamagedAt (bytes : List ℕ) (at : ℕ) : Type 0 where
  pub opened : IsOpenAt bytes 0
  pub part : (((h : Header) → IsHeader (take 64 bytes) h → ⊥) × (at ≡ 0)) ⊎ ((h : Header) × IsHeader (take 64 bytes) h × FailsBy h.summary h.first bytes at)

-- The batches agree with the summary, if there is one.
abbrev pub AgreeBy : Option Summary → (first : ℕ) → List (List Record) → Type 0
AgreeBy None first batches = ⊤
AgreeBy (Some s) first batches = Agree first s batches

-- A slot with these bytes is closed, or has a segment: a legal header, and legal batches that agree with the summary in it.
abbrev pub IsIntact : List ℕ → Type 0
IsIntact bytes = IsOpenAt bytes 0 → (h : Header) × IsHeader (take 64 bytes) h × (batches : List (List Record)) × AreBatches (drop 64 bytes) batches × AgreeBy h.summary h.first batches

-- The slot of a medium with these bytes is damaged at this offset of the medium.
pub record IsDamagedIn (segment slot : ℕ) (bytes : List ℕ) (offset : ℕ) : Type 0 where
  pub at : ℕ
  pub damaged : IsDamagedAt (slot_bytes segment slot bytes) at
  pub is : offset ≡ place_of segment slot + at

-- One of so many slots is.
pub record HasDamage (segment slots : ℕ) (bytes : List ℕ) (offset : ℕ) : Type 0 where
  pub slot : ℕ
  pub within : slot < slots
  pub damaged : IsDamagedIn segment slot bytes offset

-- What the slots of a medium hold, and what each write makes of that (this project's profile).
use Rattle.std.specs.Prelude.{◌≡◌, ℕ, ◌+◌, ◌*◌, ◌≤◌, ◌⊎◌, List, [], length, set, Option, Some, None}
use Rattle.vdr_terms.specs.Slots.{slots_from}
use Rattle.vdr_terms.specs.Records.{Record}
use Rattle.vdr_outside.specs.Parts.{Slots, part}
use Rattle.vdr_segment.specs.declared.header.Header.{Header}
use Rattle.vdr_segment.specs.Gates.{IsOpenAt}
use Rattle.vdr_segment.specs.Headers.{IsHeader}
use Rattle.vdr_entry.specs.declared.summary.Summary.{Summary}
use Rattle.vdr_segment.specs.Segments.{Segment, IsSlot, with_batch, with_summary}

-- Where a slot begins, with segments of this size.
abbrev pub place_of : (segment slot : ℕ) → ℕ
place_of segment slot = slots_from + slot * segment

-- Before the slots each part of a medium is what it was.
pub record SameFront (old new : List ℕ) : Type 0 where
  pub size : length new ≡ length old
  pub same : (from n : ℕ) → from + n ≤ slots_from → part new from n ≡ part old from n

-- The slots of a medium with these bytes hold a segment each or none, in this order.
pub record HoldsSlots (segment : ℕ) (slots : List (Option Segment)) (bytes : List ℕ) : Type 0 where
  pub room : slots_from + length slots * segment ≤ length bytes
  pub each : Slots IsSlot slots_from segment slots bytes

-- They hold the first or the second.
abbrev pub HoldsEither : (segment : ℕ) (before after : List (Option Segment)) → List ℕ → Type 0
HoldsEither segment before after bytes = HoldsSlots segment before bytes ⊎ HoldsSlots segment after bytes

-- With slot j closed, with a new segment in it, and with one batch more in its segment s.
abbrev pub slots_closed : List (Option Segment) → ℕ → List (Option Segment)
slots_closed slots j = set slots j None

abbrev pub slots_begun : List (Option Segment) → ℕ → (seq first : ℕ) → List (Option Segment)
slots_begun slots j seq first =
    set slots j (Some (record { header = record { seq = seq; first = first; summary = None }; batches = [] }))

abbrev pub slots_with_batch : List (Option Segment) → ℕ → Segment → List Record → List (Option Segment)
slots_with_batch slots j s batch = set slots j (Some (with_batch s batch))

-- With this summary in the header of its segment s.
abbrev pub slots_with_summary : List (Option Segment) → ℕ → Segment → Summary → List (Option Segment)
slots_with_summary slots j s summary = set slots j (Some (with_summary s (Some summary)))

-- What the first 64 bytes of a slot hold: behind an open gate a header, behind a closed one none.
abbrev pub IsFront : List ℕ → Option Header → Type 0
IsFront bytes (Some header) = IsOpenAt bytes 0 × IsHeader bytes header
IsFront bytes None = IsOpenAt bytes 0 → ⊥

-- The header of a slot's segment.
abbrev pub header_of : Option Segment → Option Header
header_of None = None
header_of (Some segment) = Some segment.header
